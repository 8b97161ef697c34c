use Rattle.std.proofs.Common.{◌≡◌, ◌<◌, ℕ, false, None}
use Rattle.std.specs.Prelude.{IfNone, IfSome}
use Rattle.ring_room.specs.Inner.Places.{IsOpenPlace}
use Rattle.ring_room.specs.Places.{seats_at}
use Rattle.ring_room.specs.Search.{better_open, is_open_outside}
use Rattle.ring_room.specs.Steps.{after_steps}
use Rattle.ring_room.proofs.rooms.Room.least_open.Given as goal

-- the best so far
abbrev pub invariant-loop-place : goal.invariant-loop-place
invariant-loop-place l = record {
  by_name : l.best ≡ after_steps (better_open l.self (seats_at l.self.devices l.others))
      l.place None;
  opens : IfSome l.best (IsOpenPlace l.self.devices (seats_at l.self.devices l.others));
  none : IfNone l.best ((k : ℕ) → k < l.place → is_open_outside l.self.devices
      (seats_at l.self.devices l.others) k ≡ false);
}
