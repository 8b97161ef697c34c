use Rattle.std.proofs.Common.{◌<◌, ◌≤◌, ℕ, get_or}
use Rattle.ring_room.specs.Load.{crowd_in}
use Rattle.ring_room.specs.Places.{id_at, seats_at}
use Rattle.ring_room.proofs.rooms.Room.region_floor.Given as goal

-- none so far has fewer in its region
abbrev pub invariant-loop-place : goal.invariant-loop-place
invariant-loop-place l = (k : ℕ) → k < l.place-index →
    l.least ≤ (crowd_in l.self (seats_at l.self.devices l.others)
    (id_at l.self.devices (get_or l.places k 0))).0
