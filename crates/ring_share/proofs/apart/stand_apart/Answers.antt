use Rattle.std.proofs.Common.{◌≡◌, ◌-◌, get_or, ap, ◌∙◌, arith}
use Rattle.std.proofs.lemmas.List.{get_or-map, length-map, take_all}
use Rattle.std.proofs.lemmas.Option.{slice_get_within}
use Rattle.ring_share.specs.Inner.Coded.{coded}
use Rattle.ring_share.specs.Room.{place_of}
use Rattle.ring_share.proofs.Bridge.{coded_more, place_is, places_by_id, standing_by_id}
use Rattle.ring_share.proofs.SeatsApart.{apart_uncrowded}
use Rattle.ring_share.proofs.apart.stand_apart.Goals as goal

pub loop-id-preserved : goal.loop-id-preserved
loop-id-preserved c =
    let devices = c.args.devices.now in
    let ids = c.args.row.now in
    let places = places_by_id devices ids in
    let i = c.loop-id.id-index in
    let place = c.place_in-place.result in
    let long = length-map ids (λ id. place_of id devices) in
    let here : get_or places i 0 ≡ place =
    get_or-map (λ id. place_of id devices) ids i 0 0 (omega arith) ∙ place_is devices
    c.requires.rise (get_or ids i 0) place c.place_in-place.ensures.stands in
    record {
      regions = λ code low.
          let more = coded_more c.args.in_region.now places i place code (omega (arith, long)) here
          in
          omega (
            arith,
            more,
            c.loop-id.invariant.regions code low,
            c.count_one-most.ensures.counted code,
          );
      zones = λ code low.
          let more = coded_more c.args.in_zone.now places i place code (omega (arith, long)) here in
          omega (
            arith,
            more,
            c.loop-id.invariant.zones code low,
            c.is_first.ensures.counted c.if-not-is_first.false code,
          );
      region = c.count_one-most.ensures.most;
      zone = c.is_first.ensures.one;
      few = omega (arith, c.loop-id.invariant.few, c.count_one-most.ensures.few);
    }

pub returns : goal.returns
returns c apart =
    let devices = c.args.devices.now in
    let most = c.requires.devices in
    let ids = c.args.row.now in
    let places = places_by_id devices ids in
    let in_region = c.args.in_region.now in
    let in_zone = c.args.in_zone.now in
    let all = standing_by_id devices c.requires.rise ids c.requires.known in
    let whole = take_all c.loop-id.id-index places (let count = all.count in omega (arith, count))
    in
    apart_uncrowded devices c.requires.rise ids places all in_region in_zone c.requires.in_region
    c.requires.in_zone (c.loop-id.most - 1) c.args.regions.now c.requires.regions
    (λ index lt.
    let place = get_or c.args.regions.now index 0 in
    let within = c.requires.regions.within index 0 lt in
    let low = (c.requires.in_region place within).within in
    let nearly = c.each_has_nearly.ensures apart index lt in
    let code = get_or in_region place 0 in
    let counted = c.loop-id.invariant.regions code (omega (arith, low, within, most)) ∙ ap
    (λ ps. coded in_region ps code) whole in
    omega (arith, nearly, counted))
    (λ k lt.
    let place = get_or places k 0 in
    let s = all.stand k lt in
    let within = slice_get_within devices place s.device s.at in
    let low = (c.requires.in_region place within).within in
    let low_zone = (c.requires.in_zone place within).within in
    let region = get_or in_region place 0 in
    let zone = get_or in_zone place 0 in
    let in_its_region = c.loop-id.invariant.regions region (omega (arith, low, within, most)) ∙ ap
    (λ ps. coded in_region ps region) whole in
    let in_its_zone = c.loop-id.invariant.zones zone (omega (arith, low_zone, within, most)) ∙ ap
    (λ ps. coded in_zone ps zone) whole in (
      omega (arith, in_its_region, c.loop-id.invariant.region region),
      omega (arith, in_its_zone, c.loop-id.invariant.zone zone),
    ))
