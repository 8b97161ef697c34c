use Rattle.std.proofs.Common.{◌≡◌, ◌<◌, ℕ, false, get_or}
use Rattle.ring_share.specs.Crowd.{is_less}
use Rattle.ring_room.specs.Load.{crowd_in}
use Rattle.ring_room.specs.Places.{id_at, seats_at}
use Rattle.ring_room.proofs.rooms.Room.floor_by.Given as goal

-- none so far is less crowded
abbrev pub invariant-loop-place : goal.invariant-loop-place
invariant-loop-place l = (k : ℕ) → k < l.place-index →
    is_less (crowd_in l.self (seats_at l.self.devices l.others)
    (id_at l.self.devices (get_or l.places k 0))) l.least ≡ false
