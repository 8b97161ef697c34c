use Rattle.std.proofs.Common.{◌≡◌, ◌<◌, ℕ, false, get_or}
use Rattle.ring_room.specs.Load.{is_free_in, seats_of}
use Rattle.ring_room.specs.Places.{id_at}
use Rattle.ring_room.proofs.rooms.Room.has_room_outside.Given as goal

-- none so far is outside
abbrev pub invariant-loop-place : goal.invariant-loop-place
invariant-loop-place l = (k : ℕ) → k < l.place-index → is_free_in l.self (seats_of l.others)
    (id_at l.self.devices (get_or l.place-items k 0)) ≡ false
