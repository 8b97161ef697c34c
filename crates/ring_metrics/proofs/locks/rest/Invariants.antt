use Rattle.std.proofs.Common.{take}
use Rattle.ring_metrics.proofs.Resting.{IsRestOf}
use Rattle.ring_metrics.proofs.locks.rest.Given as goal

-- for how long some partition of those so far is locked
abbrev pub invariant-loop-moved : goal.invariant-loop-moved
invariant-loop-moved l = IsRestOf l.min_hours l.hour (take l.moved-index l.moves) l.rest
