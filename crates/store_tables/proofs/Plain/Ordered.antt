-- Rows in the order of their keys, as the entries of the map that they stand for.
use Rattle.std.proofs.Common.{◌≡◌, inl, inr, ℕ, zero, suc, ℤ, ◌+◌, ◌<◌, true, false, List, [], ◌∷◌}
use Rattle.std.proofs.Common.{map, length, Ordering, Less, Equal, Greater, refl, sym, ap, subst}
use Rattle.std.proofs.Common.{subst₂, ◌∙◌, true≢false, arith, get_or}
use Rattle.std.specs.List.{IsDistinct}
use Rattle.std.specs.List.Sorted.{IsPermutation, IsSorted, IsSortedByKey}
use Rattle.std.specs.Cmp.{IsTotalOrder}
use Rattle.std.specs.Ordering.{is_eq, is_lt, eq_by_cmp, int_cmp, ordering_reverse}
use Rattle.std.specs.FinMap.{is_sorted, IsAntisymmetric}
use Rattle.std.specs.FinMap.Entries.{below_all}
use Rattle.std.proofs.lemmas.Bool.{cases_Bool, and_from, and_parts}
use Rattle.std.proofs.lemmas.Cmp.{tied_itself}
use Rattle.std.proofs.lemmas.List.{get_or-map, length-map}
use Rattle.std.proofs.lemmas.Map.Keys.{IsDistinct-head, IsDistinct-tail}
use Rattle.std.proofs.lemmas.List.Sorted.{Contains-permutation}
use Rattle.sqlite_value.specs.Order.{Row, value_cmp}
use Rattle.sqlite_value.proofs.OrderLemmas.{value_cmp_total}
use Rattle.sqlite_trees.specs.Tree.{rowid, IsTable}
use Rattle.sqlite_rules.specs.Lists.{Has}
use Rattle.sqlite_rules.proofs.ListLemmas.{all_has, all_from, has_contained, contains_had}
use Rattle.sqlite_rules.proofs.ProbeLemmas.{has_mapped}
use Rattle.store_model.proofs.Keys.{tied}
use Rattle.store_tables.proofs.Plain.Maps.{AreApart}

pub moved : {X : Type 0} (xs ys : List X) (x : X) → IsPermutation xs ys → Has xs x → Has ys x
moved xs ys x p h = has_contained ys x (Contains-permutation xs ys x p (contains_had xs x h))

-- neither above nor tied
below : {K : Type 0} {R : K → K → Ordering} → IsTotalOrder R → (x y : K) → is_lt (R y x)
    ≡ false → eq_by_cmp R x y ≡ false → R x y ≡ Less
below {R = R} o x y up other = go (R x y) (R y x) (o.antisymm x y) up other
  where
    go : (r s : Ordering) → r ≡ ordering_reverse s → is_lt s ≡ false → is_eq r ≡ false → r ≡ Less
    go Less s e h k = refl
    go Equal s e h k = absurd (true≢false k)
    go Greater Less e h k = absurd (true≢false h)
    go Greater Equal e h k = cc
    go Greater Greater e h k = cc

tail_sorted : {X : Type 0} (cmp : X → X → Ordering) (x : X) (xs : List X)
    → IsSorted cmp (x ∷ xs) → IsSorted cmp xs
tail_sorted cmp x xs up k d low high =
    let next : suc k + 1 ≡ suc (k + 1) = omega arith in
    let h = up (suc k) d (omega arith) (omega (arith, high)) in
    subst (λ n. is_lt (cmp (get_or (x ∷ xs) n d) (get_or xs k d)) ≡ false) next h

has_index : {X : Type 0} (xs : List X) (i : ℕ) (d : X) → i < length xs → Has xs (get_or xs i d)
has_index [] i d within = absurd (omega (arith, within))
has_index (x ∷ xs) zero d within = inl refl
has_index (x ∷ xs) (suc i) d within = inr (has_index xs i d (omega (arith, within)))

-- what is sorted is still sorted as what it stands for, by numbers that compare alike
pub sorted_as : {X Y : Type 0} (cmp : X → X → Ordering) (rank : Y → ℤ) (entry : X → Y)
    (xs : List X)
    → ((x y : X) → Has xs x → Has xs y → cmp x y ≡ int_cmp (rank (entry x)) (rank (entry y)))
    → IsSorted cmp xs → IsSortedByKey rank int_cmp (map entry xs)
sorted_as cmp rank entry [] alike up = λ k d low high. absurd (omega (arith, high))
sorted_as {Y = Y} cmp rank entry (x ∷ xs) alike up = λ k d low high.
    let count : length (map entry (x ∷ xs)) ≡ length (x ∷ xs) = length-map (x ∷ xs) entry in
    let next : k + 1 < length (x ∷ xs) = omega (arith, high, count) in
    let here : k < length (x ∷ xs) = omega (arith, next) in
    let later = get_or (x ∷ xs) (k + 1) x in
    let one = get_or (x ∷ xs) k x in
    subst₂ (λ (p q : Y). is_lt (int_cmp (rank p) (rank q)) ≡ false)
    (sym (get_or-map entry (x ∷ xs) (k + 1) x d next)) (sym (get_or-map entry (x ∷ xs) k x d here))
    (ap is_lt (sym (alike later one (has_index (x ∷ xs) (k + 1) x next)
    (has_index (x ∷ xs) k x here))) ∙ up k x low next)

module _ {K V : Type 0} {R : K → K → Ordering} (o : IsTotalOrder R) (exact : IsAntisymmetric R)
  where
    abbrev keys : List (K × V) → List K
    keys es = map (λ (e : K × V). e.0) es

    below_trans : (x y : K) (es : List (K × V)) → R x y ≡ Less → below_all R y es ≡ true
        → below_all R x es ≡ true
    below_trans x y [] less all = refl
    below_trans x y (e ∷ es) less all =
        let parts = and_parts _ _ all in
        and_from _ _ (ap is_lt (o.trans x y e.0 less (lower _ parts.0))) (below_trans x y es less
        parts.1)
      where
        lower : (r : Ordering) → is_lt r ≡ true → r ≡ Less
        lower Less h = refl
        lower Equal h = absurd (true≢false (sym h))
        lower Greater h = absurd (true≢false (sym h))

    module _ {X : Type 0} (cmp : X → X → Ordering) (entry : X → K × V) where
      -- what is sorted by keys that differ rises strictly
      pub rises : (xs : List X) → ((x y : X) → Has xs x → Has xs y → cmp x y
          ≡ R (entry x).0 (entry y).0) → IsSorted cmp xs
          → IsDistinct (eq_by_cmp R) (keys (map entry xs)) → is_sorted R (map entry xs) ≡ true
      rises [] alike up apart = refl
      rises (x ∷ []) alike up apart = refl
      rises (x ∷ y ∷ xs) alike up apart =
          let rest = rises (y ∷ xs) (λ a b h k. alike a b (inr h) (inr k)) (tail_sorted cmp x (y ∷
          xs) up) (IsDistinct-tail (eq_by_cmp R) _ _ apart) in
          let first : is_lt (R (entry y).0 (entry x).0) ≡ false =
          ap is_lt (sym (alike y x (inr (inl refl)) (inl refl))) ∙ up 0 x (omega arith)
          (omega arith) in
          let less = below o (entry x).0 (entry y).0 first (IsDistinct-head (eq_by_cmp R) _ _
          apart).0
          in
          and_from _ _ (and_from _ _ (ap is_lt less) (below_trans (entry x).0 (entry y).0
          (map entry xs) less (and_parts _ _ rest).0)) rest

    -- the rows of a table are apart, each from those after it
    pub rows_distinct : (entry : Row → K × V) (rows : List Row) → IsTable rows
        → AreApart o exact entry rows → IsDistinct (eq_by_cmp R) (keys (map entry rows))
    unfolding IsDistinct
    rows_distinct entry [] up apart = tt
    rows_distinct entry (r ∷ rows) up apart = (
      all_from _ (keys (map entry rows)) (λ k h.
          let e = has_mapped (λ (x : K × V). x.0) (map entry rows) k h in
          let x = has_mapped entry rows e.0 e.1 in
          let is : k ≡ (entry x.0).0 = e.2 ∙ ap (λ (y : K × V). y.0) x.2 in
          elim (cases_Bool (eq_by_cmp R (entry r).0 k)) [
            | inl same ↦ absurd (
                let one : r ≡ x.0 = apart r x.0 (inl refl) (inr x.1) (exact _ _ (tied _ same) ∙ is)
                in
                let less : value_cmp (rowid r) (rowid x.0) ≡ Less = all_has _ rows x.0 up.0 x.1 in
                let tie : value_cmp (rowid r) (rowid x.0) ≡ Equal =
                ap (λ (y : Row). value_cmp (rowid r) (rowid y)) (sym one) ∙ tied_itself
                value_cmp_total (rowid r) in
                cc)
            | inr other ↦ other
          ]),
      rows_distinct entry rows up.1 (λ a b p q. apart a b (inr p) (inr q)),
    )
