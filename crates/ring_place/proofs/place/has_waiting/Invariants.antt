use Rattle.std.proofs.Common.{ℕ, ◌<◌, get_or}
use Rattle.ring_place.specs.Inner.Placing.{IsFull}
use Rattle.ring_place.specs.Made.{row_at}
use Rattle.ring_place.proofs.place.has_waiting.Given as goal

-- none so far
abbrev pub invariant-loop-partition : goal.invariant-loop-partition
invariant-loop-partition l = (k : ℕ) → k < l.partition-index → IsFull (row_at l.seats
    (get_or l.partitions k 0))
