-- A row of which the first seats are changed.
use Rattle.std.proofs.Common.{◌≡◌, ℕ, zero, suc, ◌+◌, ◌≤◌, List, [], ◌∷◌, length, map, Option, Some}
use Rattle.std.proofs.Common.{None, refl, sym, ◌∙◌, ap, arith, set, add-one}
use Rattle.std.specs.Prelude.{slice_get}
use Rattle.std.proofs.lemmas.List.{set-get_or}
use Rattle.std.proofs.lemmas.Option.{get_or_from_slice_get}

-- the first n through f
abbrev pub front : ℕ → (Option ℕ → Option ℕ) → List (Option ℕ) → List (Option ℕ)
front zero f xs = xs
front (suc n) f [] = []
front (suc n) f (x ∷ xs) = f x ∷ front n f xs

front_at : (n : ℕ) (f : Option ℕ → Option ℕ) (xs : List (Option ℕ)) →
    slice_get (front n f xs) n ≡ slice_get xs n
front_at zero f xs = refl
front_at (suc n) f [] = refl
front_at (suc n) f (x ∷ xs) = front_at n f xs

front_more : (n : ℕ) (f : Option ℕ → Option ℕ) (xs : List (Option ℕ)) (x : Option ℕ) →
    slice_get xs n ≡ Some x → front (n + 1) f xs ≡ set (front n f xs) n (f x)
front_more n f xs x at = rw add-one (steps n xs at)
  where
    steps : (n : ℕ) (xs : List (Option ℕ)) → slice_get xs n ≡ Some x →
        front (suc n) f xs ≡ set (front n f xs) n (f x)
    steps zero [] at = absurd (cc)
    steps zero (y ∷ ys) at = let same : y ≡ x = cc in rw same refl
    steps (suc n) [] at = refl
    steps (suc n) (y ∷ ys) at = ap (λ r. f y ∷ r) (steps n ys at)

pub front_all : (n : ℕ) (f : Option ℕ → Option ℕ) (xs : List (Option ℕ)) → length xs ≤ n →
    front n f xs ≡ map f xs
front_all zero f [] h = refl
front_all zero f (x ∷ xs) h = absurd (omega arith)
front_all (suc n) f [] h = refl
front_all (suc n) f (x ∷ xs) h = ap (λ r. f x ∷ r) (front_all n f xs (omega arith))

pub front_lift : (row old : List (Option ℕ)) (n : ℕ) (f : Option ℕ → Option ℕ) (x y : Option ℕ) →
    row ≡ front n f old → slice_get row n ≡ Some x → f x ≡ y → set row n y ≡ front (n + 1) f old
front_lift row old n f x y is at gives =
    let at_old : slice_get old n ≡ Some x = sym (front_at n f old) ∙ ap (λ r. slice_get r n)
    (sym is) ∙ at in
    ap (λ r. set r n y) is ∙ ap (λ v. set (front n f old) n v) (sym gives) ∙ sym
    (front_more n f old x at_old)

pub front_skip : (row old : List (Option ℕ)) (n : ℕ) (f : Option ℕ → Option ℕ) (x : Option ℕ) →
    row ≡ front n f old → slice_get row n ≡ Some x → f x ≡ x → row ≡ front (n + 1) f old
front_skip row old n f x is at gives =
    sym (set-get_or row n None) ∙ ap (λ v. set row n v) (get_or_from_slice_get row n x None at) ∙
    front_lift row old n f x x is at gives

pub front_old : (row old : List (Option ℕ)) (n : ℕ) (f : Option ℕ → Option ℕ) (x : Option ℕ) →
    row ≡ front n f old → slice_get row n ≡ Some x → slice_get old n ≡ Some x
front_old row old n f x is at = sym (front_at n f old) ∙ ap (λ r. slice_get r n) (sym is) ∙ at
