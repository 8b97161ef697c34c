use Rattle.std.proofs.Common.{◌≡◌, map, take}
use Rattle.ring_place.specs.Rebalance.{is_recent}
use Rattle.ring_place.proofs.gather.locks.Given as goal

abbrev pub invariant-loop-moved : goal.invariant-loop-moved
invariant-loop-moved l = l.locked.items ≡ map (is_recent l.ring.min_hours l.hour)
    (take l.moved-index l.moved-items)
