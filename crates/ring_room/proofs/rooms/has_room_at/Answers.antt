use Rattle.std.proofs.Common.{◌∙◌, sym}
use Rattle.ring_room.specs.Load.{Load}
use Rattle.ring_share.proofs.Standing.{read_at}
use Rattle.ring_room.proofs.Searching.DevicesAt.{room_at}
use Rattle.ring_room.proofs.rooms.has_room_at.Goals as goal

pub returns : goal.returns
returns c =
    let load : Load = record {
      devices = c.args.devices.now;
      wanted = c.args.wanted.now;
      counts =
          c.args.counts.now;
    } in
    c.wants_more.ensures ∙ sym (room_at load c.requires.load c.args.place
    c.index-devices-place.result (read_at c.args.devices.now c.args.place
    c.index-devices-place.result c.requires.place c.index-devices-place.is))
