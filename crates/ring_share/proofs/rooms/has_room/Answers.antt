use Rattle.std.proofs.Common.{refl, sym}
use Rattle.ring_share.proofs.Bridge.{place_is}
use Rattle.ring_share.proofs.rooms.has_room.Goals as goal

pub returns-then-is_open : goal.returns-then-is_open
returns-then-is_open c =
    let opens = rw c.devices-devices.ensures.value at c.device_of.ensures.opens in
    let place = place_is c.args.ring.now.devices c.devices-devices.ensures.valid.devices.rise
    c.args.device c.place_in.result (rw c.devices-devices.ensures.value at
    c.place_in.ensures.stands) in
    rw (sym opens, sym c.is_open.ensures, c.if-is_open.true, place, c.have.ensures.value) refl

pub returns-else-is_open : goal.returns-else-is_open
returns-else-is_open c =
    let opens = rw c.devices-devices.ensures.value at c.device_of.ensures.opens in
    rw (sym opens, sym c.is_open.ensures, c.if-is_open.false) refl
