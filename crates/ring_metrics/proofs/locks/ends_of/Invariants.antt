use Rattle.ring_metrics.proofs.Ending.{AreToldUpTo}
use Rattle.ring_metrics.proofs.locks.ends_of.Given as goal

-- how often the numbers so far come
abbrev pub invariant-loop-hours : goal.invariant-loop-hours
invariant-loop-hours l = AreToldUpTo l.left l.hours-index l.ends.items l.last
