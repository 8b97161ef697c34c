use Rattle.ring_share.specs.declared.tiers.Tier.TheVariants.{Region, Zone}
use Rattle.ring_room.proofs.Searching.TierCounts.{counted_as}
use Rattle.ring_room.proofs.rooms.Room.count_tiers.Goals as goal

pub returns : goal.returns
returns c =
    let now = c.args.self.now in
    let others = c.args.others.now in
    let counts = c.count_places.new.counts in
    record {
      regions = counted_as Region _ now c.self.view_is c.self.invariant.counted
          c.self.inside.in_region c.self.invariant.regions_told others c.requires.others
          counts.by_region c.count_places.ensures.regions;
      zones = counted_as Zone _ now c.self.view_is c.self.invariant.counted
          c.self.inside.in_zone c.self.invariant.zones_told others c.requires.others
          counts.by_zone c.count_places.ensures.zones;
    }
