use Rattle.std.proofs.Common.{◌≡◌, Some, map, take}
use Rattle.ring_place.specs.Made.{heap_rank, row_at}
use Rattle.ring_place.proofs.homes.heap_ranks.Given as goal

-- those so far
abbrev pub invariant-loop-partition : goal.invariant-loop-partition
invariant-loop-partition l = l.ranks.items ≡ map (λ p. Some (heap_rank l.room (row_at l.seats p)))
    (take l.partition-index l.partitions)
