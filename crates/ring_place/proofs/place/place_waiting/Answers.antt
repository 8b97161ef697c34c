use Rattle.ring_place.specs.declared.place.Turn.TheVariants.{Homeless, Home}
use Rattle.ring_place.specs.Made.{most_empty}
use Rattle.ring_place.proofs.Placing.AllSteps.{all_end, waiting_later}
use Rattle.ring_place.proofs.Placing.ByName.{turns_placed}
use Rattle.ring_place.proofs.place.place_waiting.Goals as goal

pub place_turns-requires-2-clause-waiting : goal.place_turns-requires-2-clause-waiting
place_turns-requires-2-clause-waiting c = waiting_later Homeless c.most_empty-most.result
    c.args.room.now c.place_turns.new.room c.args.homes.now c.args.waiting.now c.args.old.now c.args.seats.now
    c.place_turns.new.seats c.place_turns.ensures.turns c.requires.waiting

pub place_turns-requires-2-clause-can : goal.place_turns-requires-2-clause-can
place_turns-requires-2-clause-can c = c.place_turns.ensures.turns.can

pub place_turns-requires-3-clause-waiting : goal.place_turns-requires-3-clause-waiting
place_turns-requires-3-clause-waiting c = waiting_later Home 2 c.place_turns.new.room
    c.place_turns-2.new.room c.args.homes.now c.args.waiting.now c.args.old.now c.place_turns.new.seats
    c.place_turns-2.new.seats c.place_turns-2.ensures.turns (waiting_later Homeless
    c.most_empty-most.result c.args.room.now c.place_turns.new.room c.args.homes.now c.args.waiting.now
    c.args.old.now c.args.seats.now c.place_turns.new.seats c.place_turns.ensures.turns
    c.requires.waiting)

pub place_turns-requires-3-clause-can : goal.place_turns-requires-3-clause-can
place_turns-requires-3-clause-can c = c.place_turns-2.ensures.turns.can

pub returns-clause-placed : goal.returns-clause-placed
returns-clause-placed c = all_end c.most_empty-most.result c.args.room.now c.place_turns.new.room
    c.place_turns-2.new.room c.place_turns-3.new.room c.args.old.now c.args.seats.now
    c.place_turns.new.seats c.place_turns-2.new.seats c.place_turns-3.new.seats c.requires.can
    c.most_empty-most.ensures.most c.place_turns.ensures.turns c.place_turns-2.ensures.turns
    c.place_turns-3.ensures.turns

pub returns-clause-by_name : goal.returns-clause-by_name
returns-clause-by_name c = turns_placed c.args.waiting.now c.args.homes.now c.args.old.now
    c.most_empty-most.result (most_empty c.args.seats.now)
    (record { load = c.args.room.now; rows = c.args.seats.now; deck = c.args.deck.now })
    (record {
      load = c.place_turns.new.room;
      rows = c.place_turns.new.seats;
      deck = c.place_turns.new.deck;
    })
    (record {
      load = c.place_turns-2.new.room;
      rows = c.place_turns-2.new.seats;
      deck = c.place_turns-2.new.deck;
    }) _ c.most_empty-most.ensures.by_name c.place_turns.ensures.by_name
    c.place_turns-2.ensures.by_name c.place_turns-3.ensures.by_name
