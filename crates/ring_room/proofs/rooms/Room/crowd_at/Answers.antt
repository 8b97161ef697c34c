use Rattle.std.proofs.Common.{refl, get_or, length, ◌<◌, arith}
use Rattle.ring_share.specs.Crowd.{tiers_of}
use Rattle.ring_room.specs.Places.{id_at}
use Rattle.ring_room.proofs.Searching.DevicesAt.{at_most_one, seats_more}
use Rattle.ring_room.proofs.rooms.Room.crowd_at.Goals as goal

pub loop-other-preserved : goal.loop-other-preserved
loop-other-preserved c =
    let now = c.args.self.now in
    let others = c.args.others.now in
    let i = c.loop-other.other-index in
    let lt : i < length others = omega arith in
    let id = id_at now.devices c.args.place in
    let other = id_at now.devices (get_or others i 0) in
    let tiers = tiers_of now.devices in
    let region = seats_more (tiers.region id) now.devices others i (tiers.region id other) lt refl
    in
    let zone = seats_more (tiers.zone id) now.devices others i (tiers.zone id other) lt refl in
    let server = seats_more (tiers.server id) now.devices others i (tiers.server id other) lt refl
    in
    record {
      region = omega (
        arith,
        region,
        c.loop-other.invariant.region,
        c.shares_at-more.ensures.region,
      );
      zone = omega (arith, zone, c.loop-other.invariant.zone, c.shares_at-more.ensures.zone);
      server = omega (
        arith,
        server,
        c.loop-other.invariant.server,
        c.shares_at-more.ensures.server,
      );
      regions = omega (
        arith,
        at_most_one (tiers.region id other),
        c.loop-other.invariant.regions,
        c.shares_at-more.ensures.region,
      );
      zones = omega (
        arith,
        at_most_one (tiers.zone id other),
        c.loop-other.invariant.zones,
        c.shares_at-more.ensures.zone,
      );
      servers = omega (
        arith,
        at_most_one (tiers.server id other),
        c.loop-other.invariant.servers,
        c.shares_at-more.ensures.server,
      );
    }
