use Rattle.std.proofs.Common.{◌≡◌, ◌≤◌, take, count_by}
use Rattle.ring_share.specs.Crowd.{rows_of}
use Rattle.ring_share.specs.Figures.{has_crowded}
use Rattle.ring_share.proofs.figures.crowded_count.Given as goal

abbrev pub invariant-loop-partition : goal.invariant-loop-partition
invariant-loop-partition l = record {
  crowded : l.crowded ≡ count_by (has_crowded l.ring.devices) (take l.partition (rows_of l.ring));
  few : l.crowded ≤ l.partition;
}
