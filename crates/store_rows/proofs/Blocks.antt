-- What the rows of rings have at a key, and what one list of rows lacks of another.
use Rattle.std.proofs.Common.{◌≡◌, ◌≢◌, ◌⊎◌, inl, inr, ℕ, ℤ, Bool, true, false, not, cond, List, []}
use Rattle.std.proofs.Common.{◌∷◌, ◌++◌, map, filter, Option, Some, None, Less, refl, sym, ap}
use Rattle.std.proofs.Common.{subst, ◌∙◌, nat_eq}
use Rattle.std.proofs.Common as std
use Rattle.std.specs.List.{AllByRecursion, flat_map}
use Rattle.std.specs.Option.{option_map}
use Rattle.std.specs.Ordering.{eq_by_cmp}
use Rattle.std.specs.Cmp.Lexicographic.{pointwise}
use Rattle.std.specs.FinMap.{find}
use Rattle.std.proofs.lemmas.Bool.{cases_Bool}
use Rattle.std.proofs.lemmas.Slice.Eq.{bytes_eq-Decides}
use Rattle.ring_model.specs.Ring.{RingRecord}
use Rattle.ring_model.specs.Rings.{ring_at}
use Rattle.store_model.specs.Entries.{NameNumber, name_number_cmp}
use Rattle.store_model.proofs.Keys.{name_number_exact, tied}
use Rattle.store_rows.specs.RingRows.{NamedRings}
use Rattle.store_rows.specs.Differences.{has_same}
use Rattle.store_rows.specs.Inner.Lacking.{lacking, rows_at}
use Rattle.store_rows.proofs.Ordered.{NamedAs, Rising, later, weaker}
use Rattle.store_rows.proofs.OneRings.{no_less}

pub other_name : (q k : NameNumber) → (k.0 ≡ q.0 → ⊥) → eq_by_cmp name_number_cmp q k ≡ false
other_name q k apart = elim (cases_Bool (eq_by_cmp name_number_cmp q k)) [
  | inl here ↦ absurd (apart (ap (λ (x : NameNumber). x.0)
      (sym (name_number_exact q k (tied _ here)))))
  | inr other ↦ other
]

module _ {V : Type 0} where
  missing_named : (q : NameNumber) (es : List (NameNumber × V)) →
      AllByRecursion (λ (e : NameNumber × V). e.0.0 ≡ q.0 → ⊥) es → find name_number_cmp q es ≡ None
  missing_named q [] apart = refl
  missing_named q (e ∷ es) apart = ap (λ t. cond t (Some e.1) (find name_number_cmp q es))
      (other_name q e.0 apart.0) ∙ missing_named q es apart.1

  front_alone : (q : NameNumber) (es fs : List (NameNumber × V)) → find name_number_cmp q fs ≡ None
      → find name_number_cmp q (es ++ fs) ≡ find name_number_cmp q es
  front_alone q [] fs none = none
  front_alone q (e ∷ es) fs none = ap (cond (eq_by_cmp name_number_cmp q e.0) (Some e.1))
      (front_alone q es fs none)

  behind_alone : (q : NameNumber) (es fs : List (NameNumber × V)) →
      AllByRecursion (λ (e : NameNumber × V). e.0.0 ≡ q.0 → ⊥) es → find name_number_cmp q (es ++
      fs) ≡ find name_number_cmp q fs
  behind_alone q [] fs apart = refl
  behind_alone q (e ∷ es) fs apart = ap (λ t. cond t (Some e.1) (find name_number_cmp q (es ++ fs)))
      (other_name q e.0 apart.0) ∙ behind_alone q es fs apart.1

module _ {V : Type 0} (rows_of : List ℕ × RingRecord → List (NameNumber × V))
    (named : (e : List ℕ × RingRecord) → NamedAs e.0 (rows_of e)) where
  -- what the rows of rings have at a key is what the rows of the key's ring have
  pub find_in : (q : NameNumber) (rings : NamedRings) → Rising rings
      → find name_number_cmp q (flat_map rows_of rings) ≡ find name_number_cmp q
      (rows_at rows_of q.0 (ring_at q.0 rings))
  find_in q [] up = refl
  find_in q (e ∷ es) up = elim (cases_Bool (pointwise nat_eq e.0 q.0)) [
    | inl here ↦
        let name : e.0 ≡ q.0 = (bytes_eq-Decides e.0 q.0).0 here in
        let none = missing_named q (flat_map rows_of es)
        (weaker _ _ (λ x less same. no_less e.0 x.0.0 (same ∙ sym name) less) _
        (later rows_of named e.0 es up.0)) in
        subst Goal (sym here) (front_alone q (rows_of e) (flat_map rows_of es) none ∙ ap
        (λ n. find name_number_cmp q (rows_of (n, e.1))) name)
    | inr other ↦
        let apart : e.0 ≡ q.0 → ⊥ = λ same. (let h : true ≡ false =
        sym ((bytes_eq-Decides e.0 q.0).1 same) ∙ other in cc) in
        subst Goal (sym other) (behind_alone q (rows_of e) (flat_map rows_of es)
        (weaker _ _ (λ x is same. apart (sym is ∙ same)) (rows_of e) (named e)) ∙ find_in q es
        up.1)
  ]
    where
      Goal : Bool → Type 0
      Goal t = find name_number_cmp q (rows_of e ++ flat_map rows_of es) ≡ find name_number_cmp q
          (rows_at rows_of q.0 (option_map (λ (x : List ℕ × RingRecord). x.1)
          (cond t (Some e) (std.find (λ (x : List ℕ × RingRecord). pointwise nat_eq x.0 q.0) es))))

  pub filter_same : {X : Type 0} (p q : X → Bool) (xs : List X) →
      AllByRecursion (λ (x : X). p x ≡ q x) xs → filter p xs ≡ filter q xs
  filter_same p q [] same = refl
  filter_same p q (x ∷ xs) same = ap (λ t. cond t (x ∷ filter p xs) (filter p xs)) same.0 ∙ ap
      (λ ys. cond (q x) (x ∷ ys) ys) (filter_same p q xs same.1)

  -- what rings lack of one ring's rows, its old ring lacks
  pub lacking_of : (same : V → V → Bool) (old : NamedRings) (e : List ℕ × RingRecord) → Rising old
      → lacking name_number_cmp same (flat_map rows_of old) (rows_of e) ≡ lacking name_number_cmp
      same (rows_at rows_of e.0 (ring_at e.0 old)) (rows_of e)
  lacking_of same old e up = filter_same _ _ (rows_of e) (weaker _ _ (λ x is.
      ap (λ o. not (has_same same o x.1)) (find_in x.0 old up ∙ ap (λ n. find name_number_cmp x.0
      (rows_at rows_of n (ring_at n old))) is)) (rows_of e) (named e))
