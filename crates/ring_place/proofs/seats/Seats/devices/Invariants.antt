use Rattle.std.proofs.Common.{◌≡◌, take}
use Rattle.ring_room.specs.Rows.{devices_on}
use Rattle.ring_place.proofs.seats.Seats.devices.Given as goal

-- the devices of the seats so far
abbrev pub invariant-loop-seat : goal.invariant-loop-seat
invariant-loop-seat l = l.devices.items ≡ devices_on (take l.seat-index l.seat-items)
