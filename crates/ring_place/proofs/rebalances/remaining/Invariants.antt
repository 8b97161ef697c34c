use Rattle.std.proofs.Common.{◌≡◌, not, take}
use Rattle.std.specs.Prelude.{filter}
use Rattle.ring_place.proofs.rebalances.remaining.Given as goal

abbrev pub invariant-loop-device : goal.invariant-loop-device
invariant-loop-device l = l.remaining.items ≡ filter (λ device. not device.removed)
    (take l.device-index l.devices)
