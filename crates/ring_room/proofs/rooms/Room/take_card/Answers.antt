use Rattle.std.proofs.Common.{◌≡◌, ◌∙◌, ap, sym, subst, take, length, refl, Some, true}
use Rattle.std.proofs.lemmas.List.{length-take-le}
use Rattle.ring_room.specs.Cards.{fits, place_on, taken_from}
use Rattle.ring_room.specs.Inner.Lists.{AreRoomy}
use Rattle.ring_room.specs.Load.{IsLeast}
use Rattle.ring_room.specs.Places.{id_at, seats_at}
use Rattle.ring_room.proofs.Searching.ByName.{least_none, roomy_listed}
use Rattle.ring_room.proofs.Searching.CardsFit.{fits_least, floor_least, floor_taken}
use Rattle.ring_room.proofs.Searching.FreeOutside.{none_roomy}
use Rattle.ring_room.proofs.Searching.RoomyPlaces.{first_listed}
use Rattle.ring_room.proofs.rooms.Room.take_card.Goals as goal

pub returns-then-self-eq0-clause-by_name : goal.returns-then-self-eq0-clause-by_name
returns-then-self-eq0-clause-by_name c =
    let inside = c.self.inside in
    let now = c.args.self.now in
    let row = seats_at now.devices c.args.others.now in
    let listed = roomy_listed _ now inside.roomy.items inside.roomy.items inside.count
    c.self.view_is refl c.self.invariant.in_order in
    let long = length-take-le inside.count inside.roomy.items c.self.invariant.few in
    ap (taken_from now row c.args.piles.now c.args.draw) (least_none now row c.args.draw
    (ap length (sym listed) ∙ long ∙ c.if-self-eq0.true))

pub returns-then-self-eq0-clause-none : goal.returns-then-self-eq0-clause-none
returns-then-self-eq0-clause-none c id =
    let inside = c.self.inside in
    let now = c.args.self.now in
    let listed = first_listed _ now inside.roomy.items inside.roomy.items inside.count
    c.self.view_is refl c.self.invariant.listed in
    let long = length-take-le inside.count inside.roomy.items c.self.invariant.few in
    none_roomy now (seats_at now.devices c.args.others.now) (take inside.count inside.roomy.items)
    listed (long ∙ c.if-self-eq0.true) id

pub returns-in-Some-clause-by_name : goal.returns-in-Some-clause-by_name
returns-in-Some-clause-by_name c =
    let inside = c.self.inside in
    let now = c.args.self.now in
    let row = seats_at now.devices c.args.others.now in
    let listed = first_listed _ now inside.roomy.items inside.roomy.items inside.count
    c.self.view_is refl c.self.invariant.listed in
    let order = roomy_listed _ now inside.roomy.items inside.roomy.items inside.count
    c.self.view_is refl c.self.invariant.in_order in
    let are = subst (AreRoomy now) order listed in
    ap Some c.taken_with.ensures ∙ floor_taken now row c.floor-floor.result c.args.piles.now
    c.args.draw c.in-Some.card are c.floor-floor.ensures c.in-Some.ensures.by_name
    c.in-Some.ensures.fits

pub returns-in-Some-clause-found : goal.returns-in-Some-clause-found
returns-in-Some-clause-found c =
    let now = c.args.self.now in
    let row = seats_at now.devices c.args.others.now in
    subst (λ taken. IsLeast now row (id_at now.devices taken.place)) (sym c.taken_with.ensures)
    (floor_least now row c.floor-floor.result (place_on c.args.piles.now c.in-Some.card)
    c.floor-floor.ensures c.in-Some.ensures.fits)

pub returns-clause-found : goal.returns-clause-found
returns-clause-found c =
    let now = c.args.self.now in
    let row = seats_at now.devices c.args.others.now in
    let place = place_on c.args.piles.now c.in-Some-card_for.card in
    subst (λ taken. IsLeast now row (id_at now.devices taken.place)) (sym c.taken_with-2.ensures)
    (fits_least now row c.in_ok-best.best place c.in_ok-best.ensures.found
    (subst (λ crowd. fits now row crowd place ≡ true) c.crowd_by-crowd.ensures
    c.in-Some-card_for.ensures.fits))
