use Rattle.std.proofs.Common.{◌<◌, length, ap, arith}
use Rattle.std.proofs.lemmas.Grind.{common_steps}
use Rattle.ring_room.specs.Load.{Load}
use Rattle.ring_room.proofs.Searching.RoomyPlaces.{room_kept, room_same, same_if}
use Rattle.ring_room.proofs.rooms.Room.set_count.Goals as goal

pub invariant_of-self-else-count-want : goal.invariant_of-self-else-count-want
invariant_of-self-else-count-want c =
    let inside = c.self.inside in
    let load : Load = record {
      devices = inside.devices.items;
      wanted = inside.wanted.items;
      counts = inside.counts.items;
    } in
    let long = ap (λ (l : Load). length l.devices) c.self.view_is in
    let within : c.args.place < length inside.devices.items = omega (arith, long, c.requires) in
    room_kept load inside.roomy.items inside.count inside.regions.items inside.zones.items
    inside.servers.items inside.in_region inside.in_zone inside.in_server inside.all_present
    inside.all_want c.self.invariant
    c.args.place c.args.count
    (room_same load c.self.invariant.counted c.args.place c.index-want.result.now
    c.index.result.now c.args.count within c.index-want.ensures c.index.ensures
    (same_if _ _ c.if-count-want.false))

pub invariant_of-self : goal.invariant_of-self
invariant_of-self c = grind (arith, common_steps)
