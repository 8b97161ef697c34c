use Rattle.std.proofs.Common.{◌≡◌, ◌<◌, ℕ, false}
use Rattle.ring_place.specs.Made.{is_over_at}
use Rattle.ring_place.proofs.gather.has_surplus.Given as goal

-- none so far
abbrev pub invariant-loop-place : goal.invariant-loop-place
invariant-loop-place l = (k : ℕ) → k < l.place → is_over_at l.kept k ≡ false
