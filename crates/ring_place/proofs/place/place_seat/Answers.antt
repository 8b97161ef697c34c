use Rattle.std.proofs.Common.{◌∙◌, ap}
use Rattle.ring_room.specs.Places.{id_at}
use Rattle.ring_place.specs.Made.{row_at, taken_for}
use Rattle.ring_place.proofs.Placing.ByName.{seat_put}
use Rattle.ring_place.proofs.place.place_seat.Goals as goal

pub returns-clause-put : goal.returns-clause-put
returns-clause-put c = record {
  id = id_at c.args.room.now.devices c.find_place-taken.result.place;
  chosen = c.find_place-taken.ensures.chosen;
  filled = c.put_on.ensures.room;
  written = c.put_on.ensures.seats;
  is_load = c.put_on.ensures.load;
}

pub returns-clause-by_name : goal.returns-clause-by_name
returns-clause-by_name c = seat_put c.args.old.now c.args.partition c.args.replica
    (record { load = c.args.room.now; rows = c.args.seats.now; deck = c.args.deck.now })
    c.put_on.new.room c.put_on.new.seats c.deal.new.self c.draw-draw.new.self c.draw-draw.result
    c.find_place-taken.result c.draw-draw.ensures.draw c.draw-draw.ensures.left
    (c.find_place-taken.ensures.by_name ∙ ap (λ piles. taken_for c.args.room.now
    (row_at c.args.old.now c.args.partition) (row_at c.args.seats.now c.args.partition)
    c.args.replica piles c.draw-draw.result) c.piles.ensures)
    c.put_on.ensures.room c.put_on.ensures.seats c.deal.ensures
