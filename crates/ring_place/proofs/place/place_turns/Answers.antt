use Rattle.std.proofs.Common.{subst, arith}
use Rattle.ring_place.specs.Inner.Placing.{AreTurns}
use Rattle.ring_place.specs.Made.{turn_at}
use Rattle.ring_room.proofs.Steps.{steps_end, steps_more, steps_none}
use Rattle.ring_place.proofs.Placing.AllSteps.{turns_more, turns_start, waiting_later}
use Rattle.ring_place.proofs.Placing.FullTurns.{turns_full, turns_stay}
use Rattle.ring_place.proofs.place.place_turns.Goals as goal

pub loop-turn-init : goal.loop-turn-init
loop-turn-init c = record {
  turns = turns_start c.args.turn c.args.room.now c.args.old.now c.args.seats.now c.requires.can;
  by_name = steps_none (turn_at c.args.turn c.args.homes.now c.args.waiting.now c.args.old.now)
      (record { load = c.args.room.now; rows = c.args.seats.now; deck = c.args.deck.now });
}

pub place_turn-requires-clause-waiting : goal.place_turn-requires-clause-waiting
place_turn-requires-clause-waiting c = waiting_later c.args.turn c.loop-turn._turn c.args.room.now
    c.loop-turn.room c.args.homes.now c.args.waiting.now c.args.old.now c.args.seats.now
    c.loop-turn.seats c.loop-turn.invariant.turns c.requires.waiting

pub place_turn-requires-clause-can : goal.place_turn-requires-clause-can
place_turn-requires-clause-can c = c.loop-turn.invariant.turns.can

pub loop-turn-preserved : goal.loop-turn-preserved
loop-turn-preserved c = record {
  turns = turns_more c.args.turn c.loop-turn._turn c.args.room.now c.loop-turn.room
      c.place_turn.new.room c.args.old.now c.args.seats.now c.loop-turn.seats
      c.place_turn.new.seats c.loop-turn.invariant.turns c.place_turn.ensures.turn;
  by_name = steps_more (turn_at c.args.turn c.args.homes.now c.args.waiting.now c.args.old.now)
      c.loop-turn._turn
      (record { load = c.args.room.now; rows = c.args.seats.now; deck = c.args.deck.now })
      (record { load = c.loop-turn.room; rows = c.loop-turn.seats; deck = c.loop-turn.deck }) _
      c.loop-turn.invariant.by_name c.place_turn.ensures.by_name;
}

pub returns-clause-turns : goal.returns-clause-turns
returns-clause-turns c = subst (λ n. AreTurns c.args.turn n c.args.room.now c.loop-turn.room
    c.args.old.now c.args.seats.now c.loop-turn.seats) (omega arith) c.loop-turn.invariant.turns

pub returns-clause-by_name : goal.returns-clause-by_name
returns-clause-by_name c =
    steps_end (turn_at c.args.turn c.args.homes.now c.args.waiting.now c.args.old.now)
    c.loop-turn._turn c.args.count
    (record { load = c.args.room.now; rows = c.args.seats.now; deck = c.args.deck.now })
    (record { load = c.loop-turn.room; rows = c.loop-turn.seats; deck = c.loop-turn.deck })
    c.loop-turn.invariant.by_name (omega arith)

pub has_waiting-requires : goal.has_waiting-requires
has_waiting-requires c = (waiting_later c.args.turn c.loop-turn._turn c.args.room.now
    c.loop-turn.room c.args.homes.now c.args.waiting.now c.args.old.now c.args.seats.now
    c.loop-turn.seats c.loop-turn.invariant.turns c.requires.waiting).below

pub returns-then-not-has_waiting-clause-turns : goal.returns-then-not-has_waiting-clause-turns
returns-then-not-has_waiting-clause-turns c = turns_full c.args.turn c.loop-turn._turn c.args.count
    c.args.room.now c.loop-turn.room c.args.homes.now c.args.waiting.now c.args.old.now
    c.args.seats.now c.loop-turn.seats c.loop-turn.invariant.turns (waiting_later c.args.turn
    c.loop-turn._turn c.args.room.now c.loop-turn.room c.args.homes.now c.args.waiting.now
    c.args.old.now c.args.seats.now c.loop-turn.seats c.loop-turn.invariant.turns c.requires.waiting)
    (c.has_waiting.ensures (c.if-not-has_waiting.true))

pub returns-then-not-has_waiting-clause-by_name : goal.returns-then-not-has_waiting-clause-by_name
returns-then-not-has_waiting-clause-by_name c = turns_stay c.args.turn c.args.homes.now
    c.args.waiting.now c.args.old.now c.loop-turn._turn c.args.count
    (record { load = c.args.room.now; rows = c.args.seats.now; deck = c.args.deck.now })
    (record { load = c.loop-turn.room; rows = c.loop-turn.seats; deck = c.loop-turn.deck })
    (c.has_waiting.ensures (c.if-not-has_waiting.true)) (omega arith) c.loop-turn.invariant.by_name
