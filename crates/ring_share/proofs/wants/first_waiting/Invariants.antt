use Rattle.ring_share.specs.Inner.Turns.{IsFirstWaiting}
use Rattle.ring_share.proofs.wants.first_waiting.Given as goal

abbrev pub invariant-loop-place : goal.invariant-loop-place
invariant-loop-place l = IsFirstWaiting l.ring l.shares l.place l.first
