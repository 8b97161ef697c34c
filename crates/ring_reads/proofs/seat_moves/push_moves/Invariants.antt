use Rattle.std.proofs.Common.{◌≡◌, ◌++◌, map}
use Rattle.std.specs.Prelude.{filter}
use Rattle.std.specs.List.{range_with_len}
use Rattle.ring_reads.specs.SeatMoves.{is_move, move_at}
use Rattle.ring_reads.proofs.seat_moves.push_moves.Given as goal

-- the seats so far that differ
abbrev pub invariant-loop-replica : goal.invariant-loop-replica
invariant-loop-replica l = l.into.items ≡ l.fn.into.items ++
    filter is_move (map (move_at l.old l.new l.power l.partition) (range_with_len 0 l.replica))
