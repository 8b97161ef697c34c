use Rattle.std.proofs.Common.{refl, get_or, length, ◌<◌, arith}
use Rattle.ring_share.specs.Crowd.{tiers_of}
use Rattle.ring_room.specs.Places.{id_at}
use Rattle.ring_room.proofs.Searching.DevicesAt.{at_most_one, seats_more}
use Rattle.ring_room.proofs.rooms.Room.on_server.Goals as goal

pub loop-other-preserved : goal.loop-other-preserved
loop-other-preserved c =
    let now = c.args.self.now in
    let others = c.args.others.now in
    let i = c.loop-other.other-index in
    let lt : i < length others = omega arith in
    let id = id_at now.devices c.args.place in
    let other = id_at now.devices (get_or others i 0) in
    let shared = (tiers_of now.devices).server id other in
    let server = seats_more ((tiers_of now.devices).server id) now.devices others i shared lt refl in
    record {
      counted = omega (
        arith,
        server,
        c.loop-other.invariant.counted,
        c.shares_at-count.ensures.server,
      );
      few = omega (
        arith,
        at_most_one shared,
        c.loop-other.invariant.few,
        c.shares_at-count.ensures.server,
      );
    }
