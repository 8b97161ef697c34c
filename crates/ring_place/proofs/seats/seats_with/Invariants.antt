use Rattle.std.proofs.Common.{◌≡◌, ◌<◌, ◌≤◌, ℕ, get_or, length, None}
use Rattle.std.specs.Prelude.{slice_get}
use Rattle.ring_place.proofs.seats.seats_with.Given as goal

-- the seats so far are taken, the others are empty
abbrev pub invariant-loop-place : goal.invariant-loop-place
invariant-loop-place l = record {
  long : length l.seats.items ≡ l.count;
  taken : (k : ℕ) → k < l.place → get_or l.seats.items k None ≡ slice_get l.devices k;
  rest : (k : ℕ) → l.place ≤ k → get_or l.seats.items k None ≡ None;
}
