-- Numbers that rise, and the test of it.
use Rattle.std.proofs.Common.{◌≡◌, ℕ, ◌+◌, ◌<◌, Bool, true, false, true≢false, List, [], ◌∷◌}
use Rattle.std.proofs.Common.{length, get_or, map, refl, sym, arith}
use Rattle.std.specs.Prelude.{IsTrue, ◌↔◌, nat_lt}
use Rattle.std.specs.List.{IsAllAdjacentAnswer}
use Rattle.std.specs.List.Sorted.{IsStrictlyIncreasing}
use Rattle.std.proofs.lemmas.Bool.{ltb-false, ltb-true}
use Rattle.std.proofs.lemmas.List.{get_or-map, length-map}

-- neighbours of rising numbers, by the elements that have them
rising_at : {X : Type 0} (number : X → ℕ) (xs : List X) (k : ℕ) (d : X) → k + 1 < length xs →
    IsStrictlyIncreasing (map number xs) → number (get_or xs k d) < number (get_or xs (k + 1) d)
rising_at number xs k d lt rise =
    let within : k + 1 < length (map number xs) = rw length-map lt in
    rw (get_or-map number xs k d 0 (omega arith), get_or-map number xs (k + 1) d 0 lt) at
    (rise k within)

-- a test of neighbours by their numbers says whether the numbers rise
pub rising_by_test : {X : Type 0} (number : X → ℕ) (xs : List X) (r : Bool) →
    IsAllAdjacentAnswer (λ x y b. b ≡ nat_lt (number x) (number y)) xs r → IsTrue r ↔
    IsStrictlyIncreasing (map number xs)
rising_by_test number [] true h = (λ yes k lt. absurd (omega arith), λ rise. refl)
rising_by_test number [] false h = absurd (let lt = h.1 in omega arith)
rising_by_test number (x ∷ xs) true h = (
  λ yes k lt.
      let within : k + 1 < length (x ∷ xs) = rw length-map at lt in
      rw (
        get_or-map number (x ∷ xs) k x 0 (omega arith),
        get_or-map number (x ∷ xs) (k + 1) x 0
            within,
      ) (ltb-true _ _ (sym (h k x within))),
  λ rise. refl,
)
rising_by_test number (x ∷ xs) false h = (
  λ no. absurd (true≢false (sym no)),
  λ rise. absurd (let above = rising_at number (x ∷ xs) h.0 x h.1 rise in let below =
      ltb-false _ _ (sym (h.2 x)) in omega arith),
)
