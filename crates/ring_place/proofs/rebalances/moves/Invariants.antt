use Rattle.std.proofs.Common.{◌≡◌, ◌≤◌, ◌*◌, map, sum_by, None, get_or}
use Rattle.ring_words.specs.Limits.{most_replicas}
use Rattle.std.specs.List.{range_with_len}
use Rattle.ring_place.specs.Made.{changed_in, stamped}
use Rattle.ring_place.specs.Made.{row_at}
use Rattle.ring_place.proofs.rebalances.moves.Given as goal

abbrev pub invariant-loop-partition : goal.invariant-loop-partition
invariant-loop-partition l = record {
  moved : l.moved.items ≡ map (λ partition. stamped l.hour (changed_in (row_at l.old partition)
      (row_at l.new partition)) (get_or l.ring.moved partition None))
      (range_with_len 0 l.partition);
  changed : l.changed ≡ sum_by (λ partition. changed_in (row_at l.old partition)
      (row_at l.new partition)) (range_with_len 0 l.partition);
  few : l.changed ≤ most_replicas * l.partition;
}
