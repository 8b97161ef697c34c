use Rattle.std.proofs.Common.{◌≡◌, ◌++◌, take}
use Rattle.ring_messages.specs.Inner.Parts.{rows_tokens}
use Rattle.ring_messages.proofs.rows.write_each.Given as goal

abbrev pub invariant-loop-row : goal.invariant-loop-row
invariant-loop-row l =
    (l.writer.tokens ≡ l.fn.writer.tokens ++ rows_tokens (take l.row-index l.rows))
    × (l.writer.before ≡ l.fn.writer.before)
