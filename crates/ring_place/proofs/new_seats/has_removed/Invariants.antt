use Rattle.std.proofs.Common.{◌≡◌, false, take}
use Rattle.std.specs.List.{list_any}
use Rattle.ring_words.specs.declared.device.Device.{Device}
use Rattle.ring_place.proofs.new_seats.has_removed.Given as goal

-- none so far
abbrev pub invariant-loop-device : goal.invariant-loop-device
invariant-loop-device l = list_any (λ (device : Device). device.removed) (take l.device-index l.devices) ≡ false
