use Rattle.ring_share.specs.declared.tiers.Tier.TheVariants.{Region, Zone, Server}
use Rattle.ring_room.proofs.Searching.TierCodes.{share_told}
use Rattle.ring_room.proofs.rooms.Room.shares_at.Goals as goal

pub returns-clause-region : goal.returns-clause-region
returns-clause-region c = share_told Region _ c.args.self.now c.self.view_is
    c.self.invariant.counted c.self.inside.in_region c.self.invariant.regions_told c.args.place
    c.args.other c.from.result c.requires.place c.requires.other c.from.ensures

pub returns-clause-zone : goal.returns-clause-zone
returns-clause-zone c = share_told Zone _ c.args.self.now c.self.view_is c.self.invariant.counted
    c.self.inside.in_zone c.self.invariant.zones_told c.args.place c.args.other c.from-2.result
    c.requires.place c.requires.other c.from-2.ensures

pub returns-clause-server : goal.returns-clause-server
returns-clause-server c = share_told Server _ c.args.self.now c.self.view_is
    c.self.invariant.counted c.self.inside.in_server c.self.invariant.servers_told c.args.place
    c.args.other c.from-3.result c.requires.place c.requires.other c.from-3.ensures
