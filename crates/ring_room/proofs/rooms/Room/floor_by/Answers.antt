use Rattle.std.proofs.Common.{◌≡◌, ◌∙◌, false, get_or, subst, sym, ap, ⊎_elim, arith}
use Rattle.std.proofs.lemmas.Bool.{cases_lt}
use Rattle.ring_share.specs.Crowd.{is_less}
use Rattle.ring_room.specs.Inner.Lists.{IsFloor}
use Rattle.ring_room.specs.Load.{crowd_in}
use Rattle.ring_room.specs.Places.{id_at, seats_at}
use Rattle.ring_room.proofs.Searching.BestSoFar.{not_less_trans}
use Rattle.ring_room.proofs.Searching.TierFloors.{floor_at, open_named}
use Rattle.ring_room.proofs.rooms.Room.floor_by.Goals as goal

pub returns-then-not-is_less : goal.returns-then-not-is_less
returns-then-not-is_less c =
    let now = c.args.self.now in
    let row = seats_at now.devices c.args.others.now in
    let places = c.args.places.now in
    let crowd = c.crowd_by-crowd.result in
    subst (λ floor. IsFloor now row floor) (sym c.cut.ensures)
    (floor_at c.args.tier now c.requires.load row places crowd c.requires.tier
    (λ k lt. not_less_trans (crowd_in now row (id_at now.devices (get_or places k 0))) c.args.floor
    crowd (c.requires.floor (id_at now.devices (get_or places k 0)) (open_named now.devices
    (get_or places k 0) (c.requires.tier.within k 0 lt) (c.requires.tier.opens k 0 lt)))
    (sym c.is_less.ensures ∙ c.if-not-is_less.true)))

pub loop-place-preserved : goal.loop-place-preserved
loop-place-preserved c k lt =
    let now = c.args.self.now in
    let row = seats_at now.devices c.args.others.now in
    let places = c.args.places.now in
    let i = c.loop-place.place-index in
    ⊎_elim
    (λ before. not_less_trans (crowd_in now row (id_at now.devices (get_or places k 0)))
    c.loop-place.least c.lesser-least.result (c.loop-place.invariant k before)
    c.lesser-least.ensures.other)
    (λ here. let same : i ≡ k = omega (arith, here, lt) in
    let own : is_less (crowd_in now row (id_at now.devices (get_or places i 0)))
    c.lesser-least.result ≡ false = ap (λ crowd. is_less crowd c.lesser-least.result)
    (sym c.crowd_by-crowd.ensures) ∙ c.lesser-least.ensures.one in
    subst (λ j. is_less (crowd_in now row (id_at now.devices (get_or places j 0)))
    c.lesser-least.result ≡ false) same own)
    (cases_lt k i)

pub returns : goal.returns
returns c =
    let now = c.args.self.now in
    let row = seats_at now.devices c.args.others.now in
    subst (λ floor. IsFloor now row floor) (sym c.cut-2.ensures)
    (floor_at c.args.tier now c.requires.load row c.args.places.now c.loop-place.least
    c.requires.tier (λ k lt. c.loop-place.invariant k (omega (
      arith,
      lt,
      c.loop-place-test.false,
    ))))
