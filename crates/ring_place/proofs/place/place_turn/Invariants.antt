use Rattle.std.proofs.Common.{◌≡◌, take}
use Rattle.ring_place.specs.Made.{Placing, put_at}
use Rattle.ring_room.specs.Steps.{after_steps}
use Rattle.ring_place.proofs.Placing.AllSteps.{TurnUpTo}
use Rattle.ring_place.proofs.place.place_turn.Given as goal

-- the partitions before this one had their turn
abbrev pub invariant-loop-partition : goal.invariant-loop-partition
invariant-loop-partition l =
    let now : Placing = record { load = l.room; rows = l.seats; deck = l.deck } in
    let first : Placing = record { load = l.fn.room; rows = l.fn.seats; deck = l.fn.deck } in
    record {
      turn : TurnUpTo l.turn (take l.partition-index l.waiting) l.fn.room l.room l.old l.fn.seats
          l.seats;
      by_name : now ≡ after_steps (put_at l.turn l.homes l.waiting l.old) l.partition-index first;
    }
