use Rattle.std.proofs.Common.{◌≡◌, ◌<◌, ◌/◌, ◌%◌, ℕ, Some}
use Rattle.std.specs.Prelude.{slice_get}
use Rattle.ring_model.proofs.parts.are_distinct.Given as goal

-- so many seats stand before this one in its partition, and no seat below the place has the device
-- of an earlier seat of its partition
abbrev pub invariant-loop-place : goal.invariant-loop-place
invariant-loop-place l = (l.before ≡ l.place % l.replicas) × ((j k id : ℕ) → j < k → k < l.place →
    j / l.replicas ≡ k / l.replicas → slice_get l.seats j ≡ Some id → slice_get l.seats k ≡ Some id
    → ⊥)
