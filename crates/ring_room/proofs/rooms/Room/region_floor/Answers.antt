use Rattle.std.proofs.Common.{◌≡◌, ◌≤◌, ap, get_or, subst, ℕ, ⊎_elim, arith}
use Rattle.std.proofs.lemmas.Bool.{cases_lt}
use Rattle.ring_share.specs.declared.tiers.Tier.TheVariants.{Region}
use Rattle.ring_room.specs.Load.{crowd_in}
use Rattle.ring_room.specs.Places.{id_at, seats_at}
use Rattle.ring_room.proofs.Searching.BestSoFar.{not_less_by_region}
use Rattle.ring_room.proofs.Searching.TierFloors.{floor_at}
use Rattle.ring_room.proofs.rooms.Room.region_floor.Goals as goal

pub loop-place-preserved : goal.loop-place-preserved
loop-place-preserved c k lt =
    let now = c.args.self.now in
    let row = seats_at now.devices c.args.others.now in
    let places = c.args.places.now in
    let i = c.loop-place.place-index in
    ⊎_elim
    (λ before. let held = c.loop-place.invariant k before in omega (arith, held, c.min-least.ensures))
    (λ here. let same : i ≡ k = omega (arith, here, lt) in
    let own : c.min-least.result ≤ (crowd_in now row (id_at now.devices (get_or places i 0))).0 =
    (let crowd = ap (λ (x : ℕ × ℕ × ℕ). x.0) c.crowd_by.ensures in
    omega (arith, c.min-least.ensures, crowd)) in
    subst (λ j. c.min-least.result ≤ (crowd_in now row (id_at now.devices (get_or places j 0))).0)
    same own)
    (cases_lt k i)

pub returns : goal.returns
returns c =
    let now = c.args.self.now in
    let row = seats_at now.devices c.args.others.now in
    let places = c.args.places.now in
    floor_at Region now c.requires.load row places (c.loop-place.least, 0, 0) c.requires.tier
    (λ k lt. not_less_by_region (crowd_in now row (id_at now.devices (get_or places k 0)))
    c.loop-place.least (c.loop-place.invariant k (omega (arith, lt, c.loop-place-test.false))))
