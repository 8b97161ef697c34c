use Rattle.std.proofs.Common.{◌≡◌, ◌<◌, ℕ, length, get_or}
use Rattle.ring_words.specs.Limits.{most_replicas}
use Rattle.ring_share.specs.Near.{StandsAt}
use Rattle.ring_share.proofs.places.places_of.Given as goal

abbrev pub invariant-loop-replica : goal.invariant-loop-replica
invariant-loop-replica l = record {
  long : length l.places ≡ most_replicas;
  stand : (k : ℕ) → k < l.replica → StandsAt l.devices (get_or l.ids k 0) (get_or l.places k 0);
}
