use Rattle.std.proofs.Common.{◌≡◌, ◌∙◌, None, Some, ap, get_or, max, sym}
use Rattle.std.proofs.lemmas.List.{get_or-map}
use Rattle.ring_room.specs.Places.{id_at, seats_at}
use Rattle.ring_place.specs.Made.{crowd_number, heap_more, heap_with}
use Rattle.ring_room.proofs.Steps.{steps_more, steps_none}
use Rattle.ring_place.proofs.homes.heap_of.Goals as goal

pub loop-place-init : goal.loop-place-init
loop-place-init c = steps_none (heap_more c.args.room.now
    (seats_at c.args.room.now.devices c.args.places.now)) 0

pub loop-place-preserved : goal.loop-place-preserved
loop-place-preserved c =
    let room = c.args.room.now in
    let places = c.args.places.now in
    let seats = seats_at room.devices places in
    let n = c.loop-place.place-index in
    let seat : get_or seats n None ≡ Some (id_at room.devices (get_or places n 0)) =
    get_or-map (λ place. Some (id_at room.devices place)) places n 0 None c.loop-place-test.true in
    steps_more (heap_more room seats) n 0 c.loop-place.most c.max-most.result
    c.loop-place.invariant (c.max-most.ensures
    ∙ ap (λ v. max v c.loop-place.most) (c.crowd_number.ensures ∙ ap crowd_number c.crowd_at.ensures)
    ∙ ap (λ s. heap_with room seats s c.loop-place.most) (sym seat))
