use Rattle.std.proofs.Common.{◌≡◌, take, count_by}
use Rattle.ring_share.specs.Crowd.{rows_of}
use Rattle.ring_share.specs.Figures.{has_crowded}
use Rattle.ring_share.proofs.figures.all_stand_apart.Given as goal

-- none of the partitions so far has one
abbrev pub invariant-loop-partition : goal.invariant-loop-partition
invariant-loop-partition l =
    count_by (has_crowded l.ring.devices) (take l.partition (rows_of l.ring)) ≡ 0
