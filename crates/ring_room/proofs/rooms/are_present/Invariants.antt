use Rattle.std.proofs.Common.{◌≡◌, All, false, take}
use Rattle.ring_room.proofs.rooms.are_present.Given as goal

-- none so far is marked
abbrev pub invariant-loop-device : goal.invariant-loop-device
invariant-loop-device l = All (λ device. device.removed ≡ false) (take l.device-index l.devices)
