use Rattle.std.proofs.Common.{◌≡◌, ◌<◌, ℕ, false, get_or, map, Some}
use Rattle.ring_share.specs.Figures.{has_better}
use Rattle.ring_share.specs.Inner.Coded.{AreAllCounts}
use Rattle.ring_share.proofs.better.has_seat_crowded.Given as goal

-- no device is better for the seats so far, and all are counted again
abbrev pub invariant-loop-replica : goal.invariant-loop-replica
invariant-loop-replica l = record {
  none : (k : ℕ) → k < l.replica → has_better l.devices (map Some l.row) k (get_or l.row k 0) ≡ false;
  counted : AreAllCounts l.codes l.places l.counts;
}
