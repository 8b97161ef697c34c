use Rattle.std.proofs.Common.{◌≡◌, ◌<◌, length}
use Rattle.ring_room.specs.Cards.{better_pile, no_rank}
use Rattle.ring_room.specs.Places.{seats_at}
use Rattle.ring_room.specs.Steps.{after_steps}
use Rattle.ring_room.proofs.rooms.Room.best_pile.Given as goal

-- the best of the steps so far
abbrev pub invariant-loop-step : goal.invariant-loop-step
invariant-loop-step l = record {
  by_name : l.best ≡ after_steps (better_pile l.self (seats_at l.self.devices l.others) l.piles
      l.start) l.step (l.start, no_rank);
  within : l.best.0 < length l.piles;
}
