use Rattle.std.proofs.Common.{◌≡◌, filter, map, take}
use Rattle.std.specs.Prelude.{nat_lt}
use Rattle.ring_metrics.specs.Locks.{hours_left}
use Rattle.ring_metrics.proofs.locks.left_hours.Given as goal

-- those of the partitions so far
abbrev pub invariant-loop-moved : goal.invariant-loop-moved
invariant-loop-moved l = l.left.items ≡ filter (nat_lt 0)
    (map (hours_left l.min_hours l.hour) (take l.moved-index l.moves))
