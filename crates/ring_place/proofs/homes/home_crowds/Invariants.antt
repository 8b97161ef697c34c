use Rattle.std.proofs.Common.{◌≡◌, map, take}
use Rattle.ring_place.specs.Made.{home_crowd, row_at}
use Rattle.ring_place.proofs.homes.home_crowds.Given as goal

-- those so far
abbrev pub invariant-loop-partition : goal.invariant-loop-partition
invariant-loop-partition l = l.crowds.items ≡ map (λ p. home_crowd l.room (row_at l.old p)
    (row_at l.seats p)) (take l.partition-index l.waiting)
