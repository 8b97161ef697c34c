use Rattle.std.proofs.lemmas.Grind.{elements}
use Rattle.std.proofs.Common.{◌≡◌, ◌∙◌, None, IfSome, sym, ap, subst, length}
use Rattle.std.proofs.Common.{arith, get_or, take, true}
use Rattle.std.proofs.lemmas.Option.{slice_get_within}
use Rattle.ring_model.specs.Ring.{has_present}
use Rattle.ring_share.specs.Crowd.{seats_on}
use Rattle.ring_room.specs.Load.{seats_of}
use Rattle.ring_room.specs.Places.{id_at, seats_at}
use Rattle.ring_room.specs.Rows.{devices_on}
use Rattle.ring_room.specs.Inner.Places.{ArePlacesOf}
use Rattle.ring_place.specs.Made.{chosen, row_at, taken_for}
use Rattle.ring_place.specs.Inner.Placing.{IsChosen}
use Rattle.ring_place.proofs.Placing.RowPlaces.{apart_alike, chosen_alike, fewer_places}
use Rattle.ring_place.proofs.Placing.RowSteps.{own_apart}
use Rattle.ring_place.proofs.place.find_place.Goals as goal

pub choose-requires-clause-apart : goal.choose-requires-clause-apart
choose-requires-clause-apart c =
    let devices = c.args.room.now.devices in
    let p = c.args.partition in
    let n = c.args.replica in
    subst (λ old. IfSome (get_or old n None) (λ id. has_present id devices ≡ true →
    seats_on id (seats_at devices (take c.places_on-count.result.1 c.places_on-count.result.0)) ≡
    0)) (sym c.row.ensures)
    (apart_alike devices (seats_at devices (take c.places_on-count.result.1
    c.places_on-count.result.0)) c.row-2.result.now (get_or (row_at c.args.old.now p) n None)
    c.places_on-count.ensures.places.alike
    (subst (λ row. IfSome (get_or (row_at c.args.old.now p) n None)
    (λ id. has_present id devices ≡ true → seats_on id row ≡ 0)) (sym c.row-2.ensures)
    (own_apart devices (row_at c.args.old.now p) (row_at c.args.seats.now p) n
    (c.requires.can.can p c.requires.partition) c.requires.empty)))

pub choose-requires-clause-enough : goal.choose-requires-clause-enough
choose-requires-clause-enough c =
    let p = c.args.partition in
    let can = c.requires.can.can p c.requires.partition in
    let are = subst (λ row. ArePlacesOf c.args.room.now.devices row
    (take c.places_on-count.result.1 c.places_on-count.result.0)) c.row-2.ensures
    c.places_on-count.ensures.places in
    let fewer = fewer_places c.args.room.now.devices (row_at c.args.seats.now p)
    (take c.places_on-count.result.1 c.places_on-count.result.0) c.args.replica are
    c.requires.empty in
    let enough = can.enough in
    omega (arith, fewer, enough)

pub bounds-row-replica : goal.bounds-row-replica
bounds-row-replica c =
    let p = c.args.partition in
    let within = slice_get_within (row_at c.args.seats.now p) c.args.replica None c.requires.empty in
    let same = (c.requires.can.can p c.requires.partition).as_many in
    let read = ap length c.row.ensures in
    omega (arith, within, same, read)

pub returns-clause-chosen : goal.returns-clause-chosen
returns-clause-chosen c =
    let room = c.args.room.now in
    let own = get_or (row_at c.args.old.now c.args.partition) c.args.replica None in
    let at = seats_at room.devices (take c.places_on-count.result.1 c.places_on-count.result.0) in
    let id = id_at room.devices c.choose.result.place in
    subst (λ row. IsChosen room row own id) c.row-2.ensures
    (chosen_alike room at c.row-2.result.now own id c.places_on-count.ensures.places.alike
    (subst (λ old. IsChosen room at (get_or old c.args.replica None) id) c.row.ensures
    c.choose.ensures.chosen))

pub returns-clause-by_name : goal.returns-clause-by_name
returns-clause-by_name c =
    let room = c.args.room.now in
    let n = c.args.replica in
    let piles = c.args.piles.now in
    let draw = c.args.draw in
    c.choose.ensures.by_name
    ∙ ap (λ at. chosen room at (get_or c.row.result.now n None) piles draw)
    (c.places_on-count.ensures.by_name ∙ ap (λ row. seats_of (devices_on row)) c.row-2.ensures)
    ∙ ap (λ before. taken_for room before (row_at c.args.seats.now c.args.partition) n piles draw)
    c.row.ensures

pub offset_bounds-row-replica : goal.offset_bounds-row-replica
offset_bounds-row-replica c = grind (arith, elements)

pub choose-requires-clause-own : goal.choose-requires-clause-own
choose-requires-clause-own c = grind (arith, elements)
