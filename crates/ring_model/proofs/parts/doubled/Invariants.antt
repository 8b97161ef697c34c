use Rattle.std.proofs.Common.{◌≡◌, ◌<◌, ◌+◌, ◌*◌, ◌/◌, ◌%◌, ℕ, length}
use Rattle.std.specs.Prelude.{slice_get}
use Rattle.ring_model.proofs.parts.doubled.Given as goal

abbrev pub invariant-loop-place : goal.invariant-loop-place
invariant-loop-place g l = record {
  count : length l.twice.items ≡ l.place;
  copied : (k : ℕ) → k < l.place → slice_get l.twice.items k ≡ slice_get l.items
      (k / l.width / 2 * l.width + k % l.width);
}
