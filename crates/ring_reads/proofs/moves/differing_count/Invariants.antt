use Rattle.std.proofs.Common.{◌≡◌, ◌≤◌, count_by}
use Rattle.std.specs.List.{range_with_len}
use Rattle.ring_model.specs.Ring.{seat}
use Rattle.ring_place.specs.Rebalance.{differs}
use Rattle.ring_reads.proofs.moves.differing_count.Given as goal

-- how many of the seats so far differ
abbrev pub invariant-loop-replica : goal.invariant-loop-replica
invariant-loop-replica l = record {
  differing : l.differing ≡ count_by (λ replica. differs (seat l.old l.partition replica)
      (seat l.new l.partition replica)) (range_with_len 0 l.replica);
  few : l.differing ≤ l.replica;
}
