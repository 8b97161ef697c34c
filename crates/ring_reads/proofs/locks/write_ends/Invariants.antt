use Rattle.std.proofs.Common.{◌≡◌, ◌++◌, take}
use Rattle.ring_reads.specs.Inner.Lists.{told_tokens}
use Rattle.ring_reads.specs.LocksJson.{lock_end_data}
use Rattle.ring_reads.proofs.locks.write_ends.Given as goal

-- what is told of those so far
abbrev pub invariant-loop-end : goal.invariant-loop-end
invariant-loop-end l =
    (l.writer.tokens ≡ l.fn.writer.tokens ++ told_tokens lock_end_data (take l.end-index l.ends))
    × (l.writer.before ≡ l.fn.writer.before)
