-- Rows as a map, whatever the table.
use Rattle.std.proofs.Common.{◌≡◌, ◌⊎◌, inl, inr, ℤ, Bool, true, false, not, cond, List, [], ◌∷◌}
use Rattle.std.proofs.Common.{map, Some, None, Ordering, IsTrue, refl, sym, ap, subst, ◌∙◌}
use Rattle.std.proofs.Common.{true≢false}
use Rattle.std.specs.List.{AllByRecursion}
use Rattle.std.specs.Cmp.{IsTotalOrder}
use Rattle.std.specs.Ordering.{is_eq, eq_by_cmp}
use Rattle.std.specs.FinMap.{FinMap, empty, from_entries, insert, remove, get-remove, find}
use Rattle.std.specs.FinMap.{get-empty, get-from_entries, get-insert, same_map, IsAntisymmetric}
use Rattle.std.proofs.lemmas.Bool.{cases_Bool, not-true}
use Rattle.std.proofs.lemmas.Cmp.{tied_itself}
use Rattle.sqlite_value.specs.Order.{Row, value_cmp}
use Rattle.sqlite_value.proofs.OrderLemmas.{value_cmp_total}
use Rattle.sqlite_trees.specs.Tree.{rowid, has_rowid, without_rowid, put_row, IsTable}
use Rattle.sqlite_trees.specs.View.{is_int}
use Rattle.sqlite_rules.specs.Lists.{Has}
use Rattle.sqlite_rules.specs.Calls.{ids_of}
use Rattle.sqlite_rules.specs.Edit.{id_in, without_all, row_at, are_fresh}
use Rattle.sqlite_rules.proofs.ListLemmas.{all_has, has_filtered}
use Rattle.sqlite_rules.proofs.ProbeLemmas.{has_mapped, mapped_has}
use Rattle.sqlite_rules.proofs.TableLemmas.{int_is, has_put, put_has, put_all_keeps}
use Rattle.sqlite_rules.proofs.PlaceLemmas.{row_at_is, left_or_taken}
use Rattle.store_model.proofs.Keys.{tied}

-- the map of no rows is empty
pub no_entries : {K V : Type 0} {R : K → K → Ordering} → IsTotalOrder R → IsAntisymmetric R
    → ◌≡◌ {A = FinMap R V} (from_entries []) empty
no_entries {R = R} o exact = same_map o exact _ _ (λ q. get-from_entries o [] q ∙ sym
    (get-empty R q))

-- a row that is left was there, and has none of the rowids
left_from : (ids : List ℤ) (rows : List Row) (x : Row) → Has (without_all rows ids) x
    → Has rows x × ((id : ℤ) → Has ids id → has_rowid id x ≡ false)
left_from [] rows x h = (h, λ id none. absurd none)
left_from (id ∷ ids) rows x h =
    let r = left_from ids (without_rowid id rows) x h in
    let was = has_filtered (λ y. not (has_rowid id y)) rows x r.0 in
    (was.0, λ other k. elim k [ inl e ↦ rw e (not-true _ was.1) | inr more ↦ r.1 other more ])

own_rowid : (x : Row) → is_int (rowid x) ≡ true → has_rowid (id_in (rowid x)) x ≡ true
own_rowid x int = ap (λ v. is_eq (value_cmp (rowid x) v)) (sym (int_is (rowid x) int)) ∙ ap is_eq
    (tied_itself value_cmp_total (rowid x))

-- Of rows, those are left that do not pass the test, where the rowids of those that pass were taken
-- out.
module _ (rows found : List Row) (up : IsTable rows) (keyed : AllByRecursion
    (λ r. IsTrue (is_int (rowid r))) rows) (test : Row → Bool)
    (sound : (x : Row) → Has found x → (r : Row) × Has rows r × (test r ≡ true) ×
    (x ≡ rowid r ∷ []))
    (complete : (r : Row) → Has rows r → test r ≡ true → Has found (rowid r ∷ [])) where
  pub left_out : (x : Row) → Has (without_all rows (ids_of found)) x → Has rows x × (test x ≡ false)
  left_out x h =
      let r = left_from (ids_of found) rows x h in
      elim (cases_Bool (test x)) [
        | inl passes ↦ absurd (true≢false (sym (own_rowid x (all_has _ rows x keyed r.0)) ∙ r.1
            (id_in (rowid x)) (mapped_has (λ y. id_in (rowid y)) found _ (complete x r.0 passes))))
        | inr fails ↦ (r.0, fails)
      ]

  pub left_in : (x : Row) → Has rows x → test x ≡ false → Has (without_all rows (ids_of found)) x
  left_in x h fails = elim (left_or_taken rows (ids_of found) x up h) [
    | inl left ↦ left
    | inr taken ↦
        let at = has_mapped (row_at rows) (ids_of found) x taken in
        let one = has_mapped (λ (y : Row). id_in (rowid y)) found at.0 at.1 in
        let r = sound one.0 one.1 in
        let id : at.0 ≡ id_in (rowid r.0) = one.2 ∙ ap (λ (y : Row). id_in (rowid y)) r.3 in
        let same : x ≡ r.0 = at.2 ∙ row_at_is rows at.0 r.0 up r.1
        (subst (λ k. has_rowid k r.0 ≡ true) (sym id)
        (own_rowid r.0 (all_has _ rows r.0 keyed r.1))) in
        absurd (true≢false (sym r.2 ∙ ap test (sym same) ∙ fails))
  ]

-- the map that rows stand for, by the entry of each
abbrev pub map_by : {K V : Type 0} (R : K → K → Ordering) → (Row → K × V) → List Row → FinMap R V
map_by R entry rows = from_entries {R = R} (map entry rows)

module _ {K V : Type 0} {R : K → K → Ordering} (o : IsTotalOrder R) (exact : IsAntisymmetric R)
    (entry : Row → K × V) where
  abbrev key : Row → K
  key r = (entry r).0

  -- no two rows have one key
  abbrev pub AreApart : List Row → Type 0
  AreApart rows = (a b : Row) → Has rows a → Has rows b → key a ≡ key b → a ≡ b

  pub found_at : (rows : List Row) (x : Row) → AreApart rows → Has rows x
      → find R (key x) (map entry rows) ≡ Some (entry x).1
  found_at [] x apart h = absurd h
  found_at (r ∷ rows) x apart h = elim (cases_Bool (eq_by_cmp R (key x) (key r))) [
    | inl here ↦ let same : x ≡ r = apart x r h (inl refl) (exact _ _ (tied _ here)) in
        rw here (ap (λ (y : Row). Some (entry y).1) (sym same))
    | inr other ↦ elim h [
      | inl same ↦ absurd (true≢false (sym (ap is_eq (tied_itself o (key r))) ∙ ap
          (λ (y : Row). eq_by_cmp R (key y) (key r)) (sym same) ∙ other))
      | inr later ↦ rw other (found_at rows x (λ a b p q. apart a b (inr p) (inr q)) later)
    ]
  ]

  pub missing_at : (rows : List Row) (q : K) → ((x : Row) → Has rows x → eq_by_cmp R q (key x)
      ≡ false) → find R q (map entry rows) ≡ None
  missing_at [] q none = refl
  missing_at (r ∷ rows) q none = rw (none r (inl refl)) (missing_at rows q (λ x h. none x (inr h)))

  -- a row has the key, or none has
  pub at_or_not : (rows : List Row) (q : K) → ((x : Row) × Has rows x × (q
      ≡ key x)) ⊎ ((x : Row) → Has rows x → eq_by_cmp R q (key x) ≡ false)
  at_or_not [] q = inr (λ x none. absurd none)
  at_or_not (r ∷ rows) q = elim (cases_Bool (eq_by_cmp R q (key r))) [
    | inl here ↦ inl (r, inl refl, exact _ _ (tied _ here))
    | inr other ↦ elim (at_or_not rows q) [
      | inl some ↦ inl (some.0, inr some.1, some.2)
      | inr none ↦ inr (λ x h. elim h [ inl same ↦ rw same other | inr later ↦ none x later ])
    ]
  ]

  -- `new` is `old` with this row, in place of the row that has its key
  pub record Puts (old new : List Row) (row : Row) : Type 0 where
    pub there : Has new row
    pub others : (x : Row) → Has new x → (x ≡ row) ⊎ (Has old x
        × (eq_by_cmp R (key x) (key row) ≡ false))
    pub kept : (x : Row) → Has old x → eq_by_cmp R (key x) (key row) ≡ false → Has new x

  unlike : (a b : K) → eq_by_cmp R a b ≡ false → a ≡ b → ⊥
  unlike a b other same = true≢false (sym (ap is_eq (tied_itself o b)) ∙ ap (λ k. eq_by_cmp R k b)
      (sym same) ∙ other)

  pub still_apart : (old new : List Row) (row : Row) → AreApart old → Puts old new row
      → AreApart new
  still_apart old new row apart puts a b h k same = elim (puts.others a h) [
    | inl one ↦ elim (puts.others b k) [
      | inl two ↦ one ∙ sym two
      | inr two ↦ absurd (unlike _ _ two.1 (sym same ∙ ap key one))
    ]
    | inr one ↦ elim (puts.others b k) [
      | inl two ↦ absurd (unlike _ _ one.1 (same ∙ ap key two))
      | inr two ↦ apart a b one.0 two.0 same
    ]
  ]

  pub put_is : (old new : List Row) (row : Row) → AreApart old → Puts old new row
      → map_by R entry new ≡ insert (map_by R entry old) (key row) (entry row).1
  put_is old new row apart puts = same_map o exact _ _ (λ q.
      get-from_entries o (map entry new) q ∙ at q ∙ ap (cond (eq_by_cmp R q (key row))
      (Some (entry row).1)) (sym (get-from_entries o (map entry old) q)) ∙ sym
      (get-insert o _ _ _ q))
    where
      now : AreApart new
      now = still_apart old new row apart puts

      at : (q : K) → find R q (map entry new)
          ≡ cond (eq_by_cmp R q (key row)) (Some (entry row).1) (find R q (map entry old))
      at q = elim (cases_Bool (eq_by_cmp R q (key row))) [
        | inl here ↦ rw here (subst (λ k. find R k (map entry new) ≡ Some (entry row).1)
            (sym (exact _ _ (tied _ here))) (found_at new row now puts.there))
        | inr other ↦ rw other (elim (at_or_not old q) [
          | inl was ↦
              let is = was.2 in
              let apart_from : eq_by_cmp R (key was.0) (key row) ≡ false =
              ap (λ k. eq_by_cmp R k (key row)) (sym is) ∙ other in
              subst (λ k. find R k (map entry new) ≡ find R k (map entry old)) (sym is)
              (found_at new was.0 now (puts.kept was.0 was.1 apart_from) ∙ sym
              (found_at old was.0 apart was.1))
          | inr none ↦
              missing_at new q (λ x h. elim (puts.others x h) [
                | inl same ↦ ap (λ (y : Row). eq_by_cmp R q (key y)) same ∙ other
                | inr was ↦ none x was.0
              ])
              ∙ sym (missing_at old q none)
        ])
      ]

  -- where the new rows have each key once, a row that was put beside the others has a key of its
  -- own
  pub inserted_puts : (old new : List Row) (row : Row) → new ≡ put_row row old
      → are_fresh old (row ∷ []) ≡ true → AreApart new → Puts old new row
  inserted_puts old new row is fresh apart =
      let there : Has new row = subst (λ rows. Has rows row) (sym is) (has_put row old) in
      let kept : (x : Row) → Has old x → Has new x = λ x h. subst (λ rows. Has rows x) (sym is)
      (put_all_keeps (row ∷ []) old x fresh h) in
      record {
        there = there;
        others = λ x h. elim (put_has row old x (subst (λ rows. Has rows x) is h)) [
          | inl same ↦ inl same
          | inr was ↦ elim (cases_Bool (eq_by_cmp R (key x) (key row))) [
            | inl tie ↦ inl (apart x row h there (exact _ _ (tied _ tie)))
            | inr other ↦ inr (was, other)
          ]
        ];
        kept = λ x h other. kept x h;
      }

  -- `new` is `old` less the row with this key
  pub record Drops (old new : List Row) (k : K) : Type 0 where
    pub others : (x : Row) → Has new x → Has old x × (eq_by_cmp R (key x) k ≡ false)
    pub kept : (x : Row) → Has old x → eq_by_cmp R (key x) k ≡ false → Has new x

  pub drop_is : (old new : List Row) (k : K) → AreApart old → Drops old new k
      → map_by R entry new ≡ remove (map_by R entry old) k
  drop_is old new k apart drops = same_map o exact _ _ (λ q.
      get-from_entries o (map entry new) q ∙ at q ∙ ap (cond (eq_by_cmp R q k) None)
      (sym (get-from_entries o (map entry old) q)) ∙ sym (get-remove o _ k q))
    where
      now : AreApart new
      now a b h l same = apart a b (drops.others a h).0 (drops.others b l).0 same

      at : (q : K) → find R q (map entry new)
          ≡ cond (eq_by_cmp R q k) None (find R q (map entry old))
      at q = elim (cases_Bool (eq_by_cmp R q k)) [
        | inl here ↦ rw here (missing_at new q (λ x h. elim (cases_Bool (eq_by_cmp R q (key x))) [
          | inl tie ↦ absurd (unlike (key x) k (drops.others x h).1 (sym (exact _ _ (tied _ tie)) ∙
              exact _ _ (tied _ here)))
          | inr other ↦ other
        ]))
        | inr other ↦ rw other (elim (at_or_not old q) [
          | inl was ↦
              let is = was.2 in
              subst (λ j. find R j (map entry new) ≡ find R j (map entry old)) (sym is)
              (found_at new was.0 now (drops.kept was.0 was.1 (ap (λ j. eq_by_cmp R j k) (sym is) ∙
              other)) ∙ sym (found_at old was.0 apart was.1))
          | inr none ↦ missing_at new q (λ x h. none x (drops.others x h).0) ∙ sym
              (missing_at old q none)
        ])
      ]
