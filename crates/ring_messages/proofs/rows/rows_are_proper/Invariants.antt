use Rattle.std.proofs.Common.{take}
use Rattle.std.specs.List.{All}
use Rattle.ring_words.specs.Rows.{IsProperRow}
use Rattle.ring_messages.proofs.rows.rows_are_proper.Given as goal

abbrev pub invariant-loop-row : goal.invariant-loop-row
invariant-loop-row l = All IsProperRow (take l.row-index l.rows)
