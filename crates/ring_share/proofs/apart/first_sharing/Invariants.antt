use Rattle.std.proofs.Common.{◌≡◌, ◌<◌, ℕ, Some, false}
use Rattle.std.specs.Prelude.{slice_get}
use Rattle.ring_words.specs.declared.device.Device.{Device}
use Rattle.ring_share.specs.Tiers.{shares}
use Rattle.ring_share.proofs.apart.first_sharing.Given as goal

-- none before shares it
abbrev pub invariant-loop-other : goal.invariant-loop-other
invariant-loop-other l = (k : ℕ) (before device : Device) → k < l.other →
    slice_get l.devices k ≡ Some before → slice_get l.devices l.place ≡ Some device →
    shares l.tier before device ≡ false
