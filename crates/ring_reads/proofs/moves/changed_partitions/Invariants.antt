use Rattle.std.proofs.Common.{◌≡◌, ◌≤◌, count_by}
use Rattle.std.specs.List.{range_with_len}
use Rattle.ring_place.specs.Rebalance.{has_changed}
use Rattle.ring_reads.proofs.moves.changed_partitions.Given as goal

-- how many of the partitions so far have a seat that differs
abbrev pub invariant-loop-partition : goal.invariant-loop-partition
invariant-loop-partition l = record {
  changed : l.changed ≡ count_by (has_changed l.old l.new) (range_with_len 0 l.partition);
  few : l.changed ≤ l.partition;
}
