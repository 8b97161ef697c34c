use Rattle.std.proofs.Common.{◌≡◌}
use Rattle.ring_room.specs.Places.{seats_at}
use Rattle.ring_room.specs.Steps.{after_steps}
use Rattle.ring_place.specs.Made.{heap_more}
use Rattle.ring_place.proofs.homes.heap_of.Given as goal

-- the greatest so far
abbrev pub invariant-loop-place : goal.invariant-loop-place
invariant-loop-place l = l.most ≡ after_steps (heap_more l.room (seats_at l.room.devices l.places))
    l.place-index 0
