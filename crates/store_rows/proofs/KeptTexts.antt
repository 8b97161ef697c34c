-- Published texts that stay under their versions.
use Rattle.std.proofs.Common.{◌≡◌, ◌⊎◌, inl, inr, ℕ, zero, suc, ◌<◌, ◌≤◌, ◌==◌, pos, Bool, true, false}
use Rattle.std.proofs.Common.{not, cond, List, [], ◌∷◌, ◌++◌, map, length, Option, Some, None, IfSome}
use Rattle.std.proofs.Common.{refl, sym, ap, subst, ◌∙◌, arith, append-nil}
use Rattle.std.proofs.Common as std
use Rattle.std.specs.Prelude.{IsSomeAnd}
use Rattle.std.specs.List.{AllByRecursion}
use Rattle.std.specs.Option.{option_map}
use Rattle.std.specs.FinMap.{find}
use Rattle.std.proofs.lemmas.Bool.{cases_Bool}
use Rattle.std.proofs.lemmas.Bool.Decides.{Decides-eqb}
use Rattle.std.proofs.lemmas.Slice.Eq.{bytes_eq-Decides}
use Rattle.ring_model.specs.Ring.{RingRecord, published_at}
use Rattle.store_model.specs.Entries.{NameNumber, name_number_cmp}
use Rattle.store_model.proofs.Keys.{name_number_exact, name_number_total}
use Rattle.store_rows.specs.RingRows.{published_entry}
use Rattle.store_rows.specs.Differences.{KeepsTexts, has_same, is_same_text}
use Rattle.store_rows.specs.Inner.Lacking.{Succeeds, is_kept_text, lacking, rows_at, text_entries_of}
use Rattle.store_rows.proofs.Ordered.{Up, sorted_rows, up_of, weaker}
use Rattle.store_rows.proofs.Sameness.{same_bytes}
use Rattle.store_rows.proofs.Steps.{find_text, lacking_nothing}
use Rattle.store_rows.proofs.Unchanged.{lacks_nothing}

-- texts under versions
abbrev Texts : Type 0
Texts = List (ℕ × List ℕ)

abbrev versions : Texts → List ℕ
versions texts = map (λ (e : ℕ × List ℕ). e.0) texts

abbrev text_at : ℕ → Texts → Option (List ℕ)
text_at version texts = option_map (λ (e : ℕ × List ℕ). e.1)
    (std.find (λ (e : ℕ × List ℕ). e.0 == version) texts)

-- each of the first texts is one of the second
abbrev AreIn : Texts → Texts → Type 0
AreIn xs ys = AllByRecursion (λ (e : ℕ × List ℕ). text_at e.0 ys ≡ Some e.1) xs

order : (m n : ℕ) → (m ≡ n) ⊎ ((m < n) ⊎ (n < m))
order zero zero = inl refl
order zero (suc n) = inr (inl (omega arith))
order (suc m) zero = inr (inr (omega arith))
order (suc m) (suc n) = elim (order m n) [
  | inl same ↦ inl (ap suc same)
  | inr apart ↦ elim apart [
    | inl less ↦ inr (inl (omega (arith, less)))
    | inr more ↦ inr (inr (omega (arith, more)))
  ]
]

unequal : (m n : ℕ) → m < n → (m == n) ≡ false
unequal m n less = elim (cases_Bool (m == n)) [
  | inl t ↦ absurd (let same : m ≡ n = (Decides-eqb m n).0 t in omega (arith, less, same))
  | inr f ↦ f
]

-- what stands behind a text is found where that stands in front
passed : (t : ℕ × List ℕ) (version : ℕ) (ts : Texts) → t.0 < version →
    text_at version (t ∷ ts) ≡ text_at version ts
passed t version ts less = ap (λ b. option_map (λ (e : ℕ × List ℕ). e.1) (cond b (Some t)
    (std.find (λ (e : ℕ × List ℕ). e.0 == version) ts))) (unequal t.0 version less)

in_front : (t : ℕ × List ℕ) (version : ℕ) (ts : Texts) → t.0 ≡ version →
    text_at version (t ∷ ts) ≡ Some t.1
in_front t version ts same = ap (λ b. option_map (λ (e : ℕ × List ℕ). e.1) (cond b (Some t)
    (std.find (λ (e : ℕ × List ℕ). e.0 == version) ts))) ((Decides-eqb t.0 version).1 same)

in_more : (t : ℕ × List ℕ) (all ts : Texts) → AllByRecursion (λ (m : ℕ). t.0 < m) (versions ts) →
    AreIn ts all → AreIn ts (t ∷ all)
in_more t all [] above in_all = tt
in_more t all (x ∷ xs) above in_all = (
  passed t x.0 all above.0 ∙ in_all.0,
  in_more t all xs above.1 in_all.1,
)

in_fewer : (t : ℕ × List ℕ) (all ts : Texts) → AllByRecursion (λ (m : ℕ). t.0 < m) (versions ts) →
    AreIn ts (t ∷ all) → AreIn ts all
in_fewer t all [] above in_all = tt
in_fewer t all (x ∷ xs) above in_all = (
  sym (passed t x.0 all above.0) ∙ in_all.0,
  in_fewer t all xs above.1 in_all.1,
)

-- texts by rising version are found under their versions
in_itself : (ts : Texts) → Up (versions ts) → AreIn ts ts
in_itself [] up = tt
in_itself (t ∷ ts) up = (in_front t t.0 ts refl, in_more t ts ts up.0 (in_itself ts up.1))

missing : (version : ℕ) (ts : Texts) → AllByRecursion (λ (m : ℕ). version < m) (versions ts) →
    text_at version ts ≡ None
missing version [] above = refl
missing version (t ∷ ts) above = ap (λ b. option_map (λ (e : ℕ × List ℕ). e.1) (cond b (Some t)
    (std.find (λ (e : ℕ × List ℕ). e.0 == version) ts))) (apart (t.0 == version) refl) ∙ missing
    version ts above.1
  where
    apart : (b : Bool) → (t.0 == version) ≡ b → (t.0 == version) ≡ false
    apart true is = absurd (let same : t.0 ≡ version = (Decides-eqb t.0 version).0 is in
        let less : version < t.0 = above.0 in omega (arith, less, same))
    apart false is = is

-- what is below the first of rising versions is below all
below : (m n : ℕ) → m < n → (ns : List ℕ) → AllByRecursion (λ (k : ℕ). n < k) ns →
    AllByRecursion (λ (k : ℕ). m < k) (n ∷ ns)
below m n less ns all = (less, weaker _ _ (λ k more. omega (arith, less, more)) ns all)

-- the first of the one texts is not before all others
not_before : (x y : ℕ × List ℕ) (ys : Texts) → Up (versions (y ∷ ys)) →
    text_at x.0 (y ∷ ys) ≡ Some x.1 → x.0 < y.0 → ⊥
not_before x y ys up found less =
    let none = missing x.0 (y ∷ ys) (below x.0 y.0 less (versions ys) up.0) in
    let no : None ≡ Some x.1 = sym none ∙ found in cc

-- texts that are among others are no more
no_more : (xs ys : Texts) → Up (versions xs) → Up (versions ys) → AreIn xs ys →
    length xs ≤ length ys
no_more [] ys up_x up_y in_all = omega arith
no_more (x ∷ xs) [] up_x up_y in_all = let no : None ≡ Some x.1 = in_all.0 in cc
no_more (x ∷ xs) (y ∷ ys) up_x up_y in_all = elim (order x.0 y.0) [
  | inl same ↦
      let above = subst (λ n. AllByRecursion (λ (m : ℕ). n < m) (versions xs)) same up_x.0 in
      let fewer = no_more xs ys up_x.1 up_y.1 (in_fewer y ys xs above in_all.1) in
      omega (arith, fewer)
  | inr apart ↦ elim apart [
    | inl less ↦ absurd (not_before x y ys up_y in_all.0 less)
    | inr more ↦
        let above = below y.0 x.0 more (versions xs) up_x.0 in
        let fewer = no_more (x ∷ xs) ys up_x up_y.1 (in_fewer y ys (x ∷ xs) above in_all) in
        omega (arith, fewer)
  ]
]

-- and where they are as many, they are the same
as_many : (xs ys : Texts) → Up (versions xs) → Up (versions ys) → AreIn xs ys →
    length xs ≡ length ys → xs ≡ ys
as_many [] [] up_x up_y in_all count = refl
as_many [] (y ∷ ys) up_x up_y in_all count = absurd (omega (arith, count))
as_many (x ∷ xs) [] up_x up_y in_all count = absurd (omega (arith, count))
as_many (x ∷ xs) (y ∷ ys) up_x up_y in_all count = elim (order x.0 y.0) [
  | inl same ↦
      let above = subst (λ n. AllByRecursion (λ (m : ℕ). n < m) (versions xs)) same up_x.0 in
      let rest = as_many xs ys up_x.1 up_y.1 (in_fewer y ys xs above in_all.1)
      (omega (arith, count)) in
      let text : Some y.1 ≡ Some x.1 = sym (in_front y x.0 ys (sym same)) ∙ in_all.0 in
      let one : x.1 ≡ y.1 = cc in
      λ i. (same i, one i) ∷ rest i
  | inr apart ↦ elim apart [
    | inl less ↦ absurd (not_before x y ys up_y in_all.0 less)
    | inr more ↦
        let above = below y.0 x.0 more (versions xs) up_x.0 in
        let fewer = no_more (x ∷ xs) ys up_x up_y.1 (in_fewer y ys (x ∷ xs) above in_all) in
        absurd (omega (arith, fewer, count))
  ]
]

-- ---- the texts of a ring that comes after another

-- a text is known where its version is, since it is the same
knows : (old ring : RingRecord) (version : ℕ) (text : List ℕ) → KeepsTexts old ring →
    published_at ring version ≡ Some text → has_same is_kept_text (published_at old version) text
    ≡ has_same is_same_text (published_at old version) text
knows old ring version text keeps is = by (published_at old version) refl
  where
    by : (o : Option (List ℕ)) → published_at old version ≡ o →
        has_same is_kept_text o text ≡ has_same is_same_text o text
    by None at = refl
    by (Some known) at =
        let both : Some known ≡ Some text = sym (keeps version known at) ∙ is in
        let same : known ≡ text = cc in
        sym ((bytes_eq-Decides known text).1 same)

new_by_version : (name : List ℕ) (old ring : RingRecord) → KeepsTexts old ring → (ts : Texts) →
    AreIn ts ring.published
    → lacking name_number_cmp is_kept_text (text_entries_of (name, old)) (map (published_entry name)
    ts) ≡ lacking name_number_cmp is_same_text (text_entries_of (name, old))
    (map (published_entry name) ts)
new_by_version name old ring keeps [] in_all = refl
new_by_version name old ring keeps (t ∷ ts) in_all =
    let known = text_entries_of (name, old) in
    let rest = lacking name_number_cmp is_kept_text known (map (published_entry name) ts) in
    let found = find_text name (Some old) t.0 in
    let one = ap (λ f. has_same is_kept_text f t.1) found ∙ knows old ring t.0 t.1 keeps in_all.0 ∙
    sym (ap (λ f. has_same is_same_text f t.1) found) in
    ap (λ b. cond (not b) (published_entry name t ∷ rest) rest) one
    ∙ ap (λ es. cond (not (has_same is_same_text (find name_number_cmp (name, pos t.0) known) t.1))
    (published_entry name t ∷ es) es) (new_by_version name old ring keeps ts in_all.1)

-- the texts that are new are those of new versions
pub new_versions : (name : List ℕ) (old : Option RingRecord) (ring : RingRecord) →
    IfSome old (λ earlier. Succeeds earlier ring)
    → lacking name_number_cmp is_kept_text (rows_at text_entries_of name old) (text_entries_of
    (name, ring)) ≡ lacking name_number_cmp is_same_text (rows_at text_entries_of name old)
    (text_entries_of (name, ring))
new_versions name None ring succeeds =
    lacking_nothing name_number_cmp is_kept_text (text_entries_of (name, ring)) ∙ sym
    (lacking_nothing name_number_cmp is_same_text (text_entries_of (name, ring)))
new_versions name (Some old) ring succeeds = new_by_version name old ring succeeds.texts
    ring.published (in_itself ring.published (up_of (versions ring.published)
    succeeds.valid.published.rise))

unchanged_texts : (name : List ℕ) (ring : RingRecord) → Up (versions ring.published) →
    lacking name_number_cmp is_same_text (text_entries_of (name, ring))
    (text_entries_of (name, ring)) ≡ []
unchanged_texts name ring up = lacks_nothing name_number_total name_number_exact is_same_text
    same_bytes (text_entries_of (name, ring)) (sorted_rows name (λ (t : ℕ × List ℕ). t.0)
    (λ t. t.1) ring.published up)

-- where there are as many as there were, none is new
pub adds_no_text : (before : List (NameNumber × List ℕ)) (name : List ℕ) (old : Option RingRecord)
    (ring : RingRecord) → IfSome old (λ earlier. Succeeds earlier ring) → IsSomeAnd old (λ earlier.
    length earlier.published ≡ length ring.published) → before ≡ before ++ lacking name_number_cmp
    is_same_text (rows_at text_entries_of name old) (text_entries_of (name, ring))
adds_no_text before name None ring succeeds count = absurd count
adds_no_text before name (Some old) ring succeeds count =
    let up_old = up_of (versions old.published) succeeds.before.published.rise in
    let up = up_of (versions ring.published) succeeds.valid.published.rise in
    let kept = weaker _ _ (λ (e : ℕ × List ℕ) at. succeeds.texts e.0 e.1 at) old.published
    (in_itself old.published up_old) in
    let same = as_many old.published ring.published up_old up kept count in
    sym (ap (λ es. before ++ es) (ap (λ ts. lacking name_number_cmp is_same_text
    (map (published_entry name) ts) (text_entries_of (name, ring))) same
    ∙ unchanged_texts name ring up) ∙ append-nil before)
