use Rattle.std.proofs.Common.{◌≡◌, ◌<◌, ◌≤◌, ◌-◌, ℕ, length, Some}
use Rattle.std.specs.Prelude.{slice_get}
use Rattle.ring_words.specs.declared.device.Device.{Device}
use Rattle.ring_share.proofs.places.place_by_halving.Given as goal

-- the device of the number is none before low, and none from high on
abbrev pub invariant-loop-high : goal.invariant-loop-high
invariant-loop-high l = record {
  some : l.low < l.high;
  within : l.high ≤ length l.devices;
  between : (k : ℕ) (device : Device) → slice_get l.devices k ≡ Some device → device.id ≡ l.id →
      (l.low ≤ k) × (k < l.high);
}

abbrev pub decreases-loop-high : goal.decreases-loop-high
decreases-loop-high l = l.high - l.low
