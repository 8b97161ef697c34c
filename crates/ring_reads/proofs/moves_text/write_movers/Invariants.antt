use Rattle.std.proofs.Common.{◌≡◌, ◌++◌}
use Rattle.std.specs.Prelude.{filter}
use Rattle.std.specs.List.{range_with_len}
use Rattle.ring_reads.specs.Inner.Lists.{told_tokens}
use Rattle.ring_reads.specs.MovesJson.{mover_data}
use Rattle.ring_reads.specs.SeatMoves.{is_mover, seat_moves}
use Rattle.ring_reads.proofs.moves_text.write_movers.Given as goal

-- what is told of the devices so far
abbrev pub invariant-loop-id : goal.invariant-loop-id
invariant-loop-id l =
    (l.writer.tokens ≡ l.fn.writer.tokens ++ told_tokens (mover_data (seat_moves l.old l.new))
    (filter (is_mover l.old l.new (seat_moves l.old l.new)) (range_with_len 0 l.id)))
    × (l.writer.before ≡ l.fn.writer.before)
