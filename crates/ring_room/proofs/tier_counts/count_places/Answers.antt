use Rattle.std.proofs.Common.{length, ◌<◌, arith}
use Rattle.ring_room.proofs.Searching.TierCounts.{at_most_one_more, places_more}
use Rattle.ring_room.proofs.tier_counts.count_places.Goals as goal

pub loop-place-preserved : goal.loop-place-preserved
loop-place-preserved c =
    let regions = c.args.regions.now in
    let zones = c.args.zones.now in
    let places = c.args.places.now in
    let i = c.loop-place.place-index in
    let held = c.loop-place.invariant in
    let lt : i < length places = omega arith in
    record {
      regions = λ code within.
          let more = places_more regions places i code lt in
          omega (arith, more, c.count_one.ensures code, held.regions code within);
      few_regions = λ code.
          let few = at_most_one_more regions places i code in
          omega (arith, few, c.count_one.ensures code, held.few_regions code);
      zones = λ code within.
          let more = places_more zones places i code lt in
          omega (arith, more, c.count_one-in-loop-place.ensures code, held.zones code within);
      few_zones = λ code.
          let few = at_most_one_more zones places i code in
          omega (arith, few, c.count_one-in-loop-place.ensures code, held.few_zones code);
    }
