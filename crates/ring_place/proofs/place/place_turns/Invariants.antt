use Rattle.std.proofs.Common.{◌≡◌}
use Rattle.ring_place.specs.Made.{Placing, turn_at}
use Rattle.ring_room.specs.Steps.{after_steps}
use Rattle.ring_place.specs.Inner.Placing.{AreTurns}
use Rattle.ring_place.proofs.place.place_turns.Given as goal

-- the turns before this one are run
abbrev pub invariant-loop-turn : goal.invariant-loop-turn
invariant-loop-turn l =
    let now : Placing = record { load = l.room; rows = l.seats; deck = l.deck } in
    let first : Placing = record { load = l.fn.room; rows = l.fn.seats; deck = l.fn.deck } in
    record {
      turns : AreTurns l.turn l._turn l.fn.room l.room l.old l.fn.seats l.seats;
      by_name : now ≡ after_steps (turn_at l.turn l.homes l.waiting l.old) l._turn first;
    }
