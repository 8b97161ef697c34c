-- Entries in another order are those of the same map.
use Rattle.std.proofs.Common.{◌≡◌, Bool, true, false, List, [], ◌∷◌, cond, map, Option, Some, None}
use Rattle.std.proofs.Common.{Ordering, Less, Equal, Greater, arith, refl, sym, ap, subst, ◌∙◌, T}
use Rattle.std.specs.Prelude.{filter}
use Rattle.std.specs.List.{AllByRecursion, IsDistinct}
use Rattle.std.specs.List.Sorted.{IsPermutation}
use Rattle.std.specs.Cmp.{IsTotalOrder}
use Rattle.std.specs.Ordering.{eq_by_cmp, is_eq}
use Rattle.std.specs.FinMap.{from_entries, from_sorted, entries, find, is_sorted, IsAntisymmetric}
use Rattle.std.specs.FinMap.{entries-from_sorted, entries-insert, get-entries, get-from_sorted}
use Rattle.std.specs.FinMap.{get-from_entries, same_map}
use Rattle.std.specs.FinMap.Entries.{by_order, put}
use Rattle.std.specs.Map.{lookup}
use Rattle.std.proofs.lemmas.Cmp.{eq_by_cmp_equiv}
use Rattle.std.proofs.lemmas.List.Sorted.{IsPermutation-map, IsPermutation-sym}
use Rattle.std.proofs.lemmas.List.Sorted.{Contains-permutation, IsPermutation-cons}
use Rattle.std.proofs.lemmas.List.Sorted.{IsPermutation-refl, IsPermutation-swap}
use Rattle.std.proofs.lemmas.List.Sorted.{IsPermutation-trans}
use Rattle.std.proofs.lemmas.Map.Keys.{IsDistinct-IsPermutation}
use Rattle.std.proofs.lemmas.Map.Views.{Contains-from_lookup, lookup-from_Contains}
use Rattle.store_model.proofs.Keys.{tied}

-- two lookups find the same where each finds what the other does
alike : {V : Type 0} (a b : Option V) → ((v : V) → a ≡ Some v → b ≡ Some v) →
    ((v : V) → b ≡ Some v → a ≡ Some v) → b ≡ a
alike None None there back = refl
alike None (Some v) there back = sym (back v refl)
alike (Some v) b there back = there v refl

-- of two choices neither was made
no_choice : {X : Type 0} (b : Bool) (x : X) (o : Option X) → cond b (Some x) o ≡ None →
    (b ≡ false) × (o ≡ None)
no_choice true x o none = cc
no_choice false x o none = (refl, none)

-- what passes a test, with two more in front, of which the second goes behind the first
passed : {X : Type 0} (p : X → Bool) (x y : X) (xs ys : List X) →
    IsPermutation (filter p (x ∷ xs)) (filter p ys) →
    IsPermutation (filter p (x ∷ y ∷ xs)) (filter p (y ∷ ys))
passed p x y xs ys rest =
    elim (p y) as (λ b. IsPermutation
    (cond (p x) (x ∷ cond b (y ∷ filter p xs) (filter p xs)) (cond b (y ∷ filter p xs) (filter p xs)))
    (cond b (y ∷ filter p ys) (filter p ys))) [
      | true ↦ (elim (p x) as (λ a. IsPermutation (cond a (x ∷ filter p xs) (filter p xs))
          (filter p ys) →
          IsPermutation (cond a (x ∷ y ∷ filter p xs) (y ∷ filter p xs)) (y ∷ filter p ys)) [
            | true ↦ λ one. IsPermutation-trans _ _ _ (IsPermutation-swap
                (x ∷ y ∷ filter p xs) (y ∷ x ∷ filter p xs) 0 1 (omega arith) (omega arith) refl)
                (IsPermutation-cons y _ _ one)
            | false ↦ λ one. IsPermutation-cons y _ _ one
          ]) rest
      | false ↦ rest
    ]

module _ {K V : Type 0} {R : K → K → Ordering} (o : IsTotalOrder R) (exact : IsAntisymmetric R)
  where
    abbrev keys : List (K × V) → List K
    keys es = map (λ (e : K × V). e.0) es

    as_lookup : (q : K) (es : List (K × V)) → find R q es ≡ lookup (eq_by_cmp R q) es
    as_lookup q [] = refl
    as_lookup q (e ∷ es) = ap (cond (eq_by_cmp R q e.0) (Some e.1)) (as_lookup q es)

    -- what is found among the entries is found among them in another order
    found_moved : (es fs : List (K × V)) → IsPermutation es fs
        → IsDistinct (eq_by_cmp R) (keys fs) → (q : K) (v : V) → find R q es ≡ Some v
        → find R q fs ≡ Some v
    found_moved es fs p apart q v h =
        let there = Contains-from_lookup (λ x y tie. exact x y (tied _ tie)) q v es
        (sym (as_lookup q es) ∙ h) in
        as_lookup q fs ∙ lookup-from_Contains (eq_by_cmp_equiv o) q v fs apart
        (Contains-permutation es fs (q, v) p there)

    pub keys_stay : (es fs : List (K × V)) → IsPermutation es fs
        → IsDistinct (eq_by_cmp R) (keys es) → IsDistinct (eq_by_cmp R) (keys fs)
    keys_stay es fs p = IsDistinct-IsPermutation (eq_by_cmp R) (eq_by_cmp_equiv o).symm (keys es)
        (keys fs) (IsPermutation-map (λ (e : K × V). e.0) es fs p)

    find_permuted : (es fs : List (K × V)) → IsPermutation es fs
        → IsDistinct (eq_by_cmp R) (keys es) → (q : K) → find R q fs ≡ find R q es
    find_permuted es fs p apart q = alike (find R q es) (find R q fs)
        (found_moved es fs p (keys_stay es fs p apart) q)
        (found_moved fs es (IsPermutation-sym es fs p) apart q)

    -- entries whose keys strictly rise are those of the map
    pub entries_are : (es fs : List (K × V)) → IsPermutation es fs
        → IsDistinct (eq_by_cmp R) (keys es) → is_sorted R fs ≡ true
        → entries (from_entries {R = R} es) ≡ fs
    entries_are es fs p apart up =
        let rises = subst T (sym up) tt in
        let same : from_entries {R = R} es ≡ from_sorted {R = R} fs =
        same_map o exact _ _ (λ q. get-from_entries o es q ∙ sym (get-from_sorted R fs q rises ∙
        find_permuted es fs p apart q)) in
        ap entries same ∙ entries-from_sorted R fs rises

    absent : (k : K) (es : List (K × V)) → AllByRecursion (λ (y : K). eq_by_cmp R k y ≡ false)
        (keys es) → find R k es ≡ None
    absent k [] all = refl
    absent k (e ∷ es) all = ap (λ b. cond b (Some e.1) (find R k es)) all.0 ∙ absent k es all.1

    module _ (p : K × V → Bool) where
      put_by : (r : Ordering) (k : K) (v : V) (e : K × V) (es : List (K × V)) → is_eq r ≡ false
          → IsPermutation (filter p ((k, v) ∷ es)) (filter p (put R k v es))
          → IsPermutation (filter p ((k, v) ∷ e ∷ es)) (filter p (by_order r ((k, v) ∷ e ∷ es)
          ((e.0, v) ∷ es) (e ∷ put R k v es)))
      put_by Less k v e es other rest = IsPermutation-refl _
      put_by Equal k v e es other rest = cc
      put_by Greater k v e es other rest = passed p (k, v) e es (put R k v es) rest

      put_passed : (k : K) (v : V) (es : List (K × V)) → find R k es ≡ None
          → IsPermutation (filter p ((k, v) ∷ es)) (filter p (put R k v es))
      put_passed k v [] none = IsPermutation-refl _
      put_passed k v (e ∷ es) none =
          let parts = no_choice (eq_by_cmp R k e.0) e.1 (find R k es) none in
          put_by (R k e.0) k v e es parts.0 (put_passed k v es parts.1)

      -- in front of both lists one entry more, which passes or doesn't
      passed_more : (e : K × V) (es fs : List (K × V)) → IsPermutation (filter p es) (filter p fs)
          → IsPermutation (filter p (e ∷ es)) (filter p (e ∷ fs))
      passed_more e es fs same =
          elim (p e) as (λ b. IsPermutation (cond b (e ∷ filter p es) (filter p es))
          (cond b (e ∷ filter p fs) (filter p fs))) [
            | true ↦ IsPermutation-cons e _ _ same
            | false ↦ same
          ]

      -- of entries of which each has a key of its own, those that pass a test are those of their
      -- map that do, in another order
      pub made_passed : (es : List (K × V)) → IsDistinct (eq_by_cmp R) (keys es)
          → IsPermutation (filter p es) (filter p (entries (from_entries {R = R} es)))
      unfolding IsDistinct
      made_passed [] apart =
          let none : entries (from_entries {X = V} {R = R} []) ≡ [] =
          entries_are [] [] (IsPermutation-refl []) tt refl in
          subst (λ (fs : List (K × V)). IsPermutation [] (filter p fs)) (sym none)
          (IsPermutation-refl [])
      made_passed (e ∷ es) apart =
          let none = sym (get-entries (from_entries {R = R} es) e.0) ∙ get-from_entries o es e.0 ∙
          absent e.0 es apart.0 in
          subst (λ (fs : List (K × V)). IsPermutation (filter p (e ∷ es)) (filter p fs))
          (sym (entries-insert o (from_entries {R = R} es) e.0 e.1))
          (IsPermutation-trans _ _ _ (passed_more e es (entries (from_entries {R = R} es))
          (made_passed es apart.1)) (put_passed e.0 e.1 (entries (from_entries {R = R} es)) none))
