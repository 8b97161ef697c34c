use Rattle.std.proofs.Common.{◌≡◌, take}
use Rattle.ring_place.specs.Made.{with_empty}
use Rattle.ring_place.proofs.homes.with_empty.Given as goal

-- those so far
abbrev pub invariant-loop-partition : goal.invariant-loop-partition
invariant-loop-partition l = l.partitions.items ≡ with_empty (take l.partition-index l.order) l.seats
