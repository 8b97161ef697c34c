use Rattle.std.proofs.Common.{◌≡◌, ◌∙◌, sym}
use Rattle.ring_share.specs.declared.tiers.Tier.TheVariants.{Region, Zone}
use Rattle.ring_room.specs.Load.{crowd_in}
use Rattle.ring_room.specs.Places.{id_at, seats_at}
use Rattle.ring_room.proofs.Searching.TierCounts.{none_on_server, read_counted, told_here}
use Rattle.ring_room.proofs.rooms.Room.crowd_by.Goals as goal

pub returns-then-zone-eq0 : goal.returns-then-zone-eq0
returns-then-zone-eq0 c =
    let now = c.args.self.now in
    let inside = c.self.inside in
    let is = c.self.view_is in
    let place = c.args.place in
    let lt = c.requires.place in
    let row = seats_at now.devices c.args.others.now in
    let id = id_at now.devices place in
    let crowd = crowd_in now row id in
    let region : c.from-region.result ≡ crowd.0 = read_counted c.args.counts.now.by_region _ _ _ _
    c.from.ensures c.from-region.ensures (c.requires.counts.regions place _ lt
    (told_here Region _ now is inside.in_region c.self.invariant.regions_told place lt)) in
    let zone : c.from-zone.result ≡ crowd.1 = read_counted c.args.counts.now.by_zone _ _ _ _
    c.from-2.ensures c.from-zone.ensures (c.requires.counts.zones place _ lt
    (told_here Zone _ now is inside.in_zone c.self.invariant.zones_told place lt)) in
    let no_zone : crowd.1 ≡ 0 = sym zone ∙ c.if-zone-eq0.true in
    cc (region, no_zone, none_on_server now.devices id row no_zone)

pub returns : goal.returns
returns c =
    let now = c.args.self.now in
    let inside = c.self.inside in
    let is = c.self.view_is in
    let place = c.args.place in
    let lt = c.requires.place in
    let row = seats_at now.devices c.args.others.now in
    let crowd = crowd_in now row (id_at now.devices place) in
    let region : c.from-region.result ≡ crowd.0 = read_counted c.args.counts.now.by_region _ _ _ _
    c.from.ensures c.from-region.ensures (c.requires.counts.regions place _ lt
    (told_here Region _ now is inside.in_region c.self.invariant.regions_told place lt)) in
    let zone : c.from-zone.result ≡ crowd.1 = read_counted c.args.counts.now.by_zone _ _ _ _
    c.from-2.ensures c.from-zone.ensures (c.requires.counts.zones place _ lt
    (told_here Zone _ now is inside.in_zone c.self.invariant.zones_told place lt)) in
    cc (region, zone, c.on_server.ensures)
