use Rattle.std.proofs.Common.{◌≡◌, ℕ, ◌<◌, None, false, get_or}
use Rattle.ring_place.specs.Made.{is_number}
use Rattle.ring_place.proofs.homes.numbers_in.Given as goal

-- what isn't told as found is none of those so far
abbrev pub invariant-loop-number : goal.invariant-loop-number
invariant-loop-number l = (number : ℕ) → number < 11 → get_or l.found number false ≡ false →
    (k : ℕ) → k < l.number-index → is_number number (get_or l.numbers k None) ≡ false
