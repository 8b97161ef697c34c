use Rattle.std.proofs.Common.{◌≡◌, string_bytes, take}
use Rattle.std.specs.List.{flat_map}
use Rattle.ring_reads.specs.SeatMoves.{move_line}
use Rattle.ring_reads.proofs.moves_text.lines_of.Given as goal

-- the lines so far
abbrev pub invariant-loop-one : goal.invariant-loop-one
invariant-loop-one l = string_bytes l.text ≡ flat_map move_line (take l.one-index l.moves)
