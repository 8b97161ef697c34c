-- The parts of a slice that begin or end at a bounded place.
use Rattle.std.proofs.Common.{◌-◌, ◌≡◌, ◌∙◌, List, ap, arith, drop, length, min, take, ℕ}
use Rattle.std.proofs.lemmas.List.{drop_min, take_min, take_rest}

-- a slice up to a number that is no greater than its length
pub first_are : {X : Type 0} (xs : List X) (n l k : ℕ) → l ≡ length xs → k ≡ min l n →
    take (k - 0) xs ≡ take n xs
first_are xs n l k long least =
    let at : k - 0 ≡ min n (length xs) = omega (arith, long, least) in
    ap (λ m. take m xs) at ∙ take_min n xs

-- a slice from such a number on
pub others_are : {X : Type 0} (xs : List X) (n l k : ℕ) → l ≡ length xs → k ≡ min l n →
    take (length xs - k) (drop k xs) ≡ drop n xs
others_are xs n l k long least =
    let at : k ≡ min n (length xs) = omega (arith, long, least) in
    take_rest xs k ∙ ap (λ m. drop m xs) at ∙ drop_min n xs
