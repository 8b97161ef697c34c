use Rattle.std.proofs.Common.{◌≡◌, ◌≤◌, count_by, length}
use Rattle.std.specs.Prelude.{nat_lt}
use Rattle.std.specs.List.{flat_map, range_with_len}
use Rattle.ring_reads.specs.SeatMoves.{partition_moves}
use Rattle.ring_reads.proofs.seat_moves.moves_between.Given as goal

-- the seats of the partitions so far that differ, and how many partitions have one
abbrev pub invariant-loop-partition : goal.invariant-loop-partition
invariant-loop-partition l = record {
  list : l.list.items ≡ flat_map (partition_moves l.old l.new l.power)
      (range_with_len 0 l.partition);
  partitions : l.partitions ≡ count_by (λ partition. nat_lt 0 (length (partition_moves l.old l.new
      l.power partition))) (range_with_len 0 l.partition);
  few : l.partitions ≤ l.partition;
}
