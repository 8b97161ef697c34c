use Rattle.std.proofs.Common.{◌≡◌, ◌≤◌, count_by, None, get_or}
use Rattle.std.specs.List.{range_with_len}
use Rattle.ring_place.specs.Rebalance.{differs}
use Rattle.ring_place.proofs.rebalances.count_changed.Given as goal

abbrev pub invariant-loop-replica : goal.invariant-loop-replica
invariant-loop-replica l = record {
  count : l.changed ≡ count_by (λ replica. differs (get_or l.old replica None)
      (get_or l.new replica None)) (range_with_len 0 l.replica);
  few : l.changed ≤ l.replica;
}
