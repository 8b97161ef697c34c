use Rattle.ring_room.specs.Inner.Lists.{IsFloor}
use Rattle.ring_room.specs.Places.{seats_at}
use Rattle.ring_room.specs.Inner.Places.{IsBestSoFar}
use Rattle.std.proofs.Common.{◌≡◌}
use Rattle.ring_room.specs.Search.{best_after}
use Rattle.ring_room.proofs.rooms.Room.least_of.Given as goal

-- the best of the steps so far, and a floor
abbrev pub invariant-loop-step : goal.invariant-loop-step
invariant-loop-step l = record {
  best : IsBestSoFar l.places l.start l.step l.self (seats_at l.self.devices l.others) l.best;
  value : l.best ≡ best_after l.self (seats_at l.self.devices l.others) l.places l.start l.step;
  floor : IsFloor l.self (seats_at l.self.devices l.others) l.known;
}
