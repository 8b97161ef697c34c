-- What rows lack of themselves: nothing, where each has a key of its own.
use Rattle.std.proofs.Common.{◌≡◌, inl, inr, ℕ, Bool, true, false, not, cond, List, [], ◌∷◌, ◌++◌}
use Rattle.std.proofs.Common.{map, Option, Some, None, Ordering, Equal, refl, sym, ap, ◌∙◌, ◌==◌}
use Rattle.std.proofs.Common.{append-nil, is_none, subst, ◌+◌, ◌&&◌, IsTrue}
use Rattle.std.specs.Prelude.{IsSomeAnd}
use Rattle.std.proofs.Common as std
use Rattle.std.specs.Ordering.{is_lt, is_eq, eq_by_cmp}
use Rattle.std.specs.Bool.{Decides, beq}
use Rattle.std.specs.Option.{option_eq, option_map}
use Rattle.std.specs.Cmp.{IsTotalOrder, booleans_Decides}
use Rattle.std.specs.Cmp.Lexicographic.{pointwise}
use Rattle.std.specs.List.{AllByRecursion, count_by, enumerate_from, fold}
use Rattle.std.specs.List.Sorted.{IsStrictlyIncreasing}
use Rattle.std.specs.FinMap.{find, is_sorted, IsAntisymmetric}
use Rattle.std.specs.FinMap.Entries.{below_all}
use Rattle.std.proofs.lemmas.Bool.{cases_Bool, and_from, and_parts}
use Rattle.std.proofs.lemmas.Bool.Decides.{Decides-eqb}
use Rattle.std.proofs.lemmas.Cmp.{tied_itself}
use Rattle.std.proofs.lemmas.Slice.Eq.{slice_eq-Decides}
use Rattle.ring_model.specs.Ring.{RingRecord}
use Rattle.ring_words.specs.Rows.{is_same_row}
use Rattle.ring_words.specs.declared.device.Device.{Device}
use Rattle.ring_words.proofs.AlikeRows.{one_row}
use Rattle.store_model.specs.Entries as rows
use Rattle.store_model.specs.Entries.{NameNumber, name_number_cmp}
use Rattle.store_model.proofs.Keys.{name_number_exact, name_number_total, tied}
use Rattle.store_rows.specs.Differences.{has_same, is_same_device, is_same_part}
use Rattle.store_rows.specs.RingRows.{device_entry, part_entry, part_entries_of}
use Rattle.store_rows.specs.Inner.Lacking.{device_in, device_value, lacking, rows_at}
use Rattle.store_rows.proofs.Ordered.{places_up, sorted_rows, up_of}
use Rattle.store_rows.proofs.Sameness.{device_itself, part_itself}

module _ {K V : Type 0} {R : K → K → Ordering} (o : IsTotalOrder R) (exact : IsAntisymmetric R)
    (same : V → V → Bool) (itself : (v : V) → same v v ≡ true) where
  other_key : (k x : K) → is_lt (R k x) ≡ true → eq_by_cmp R x k ≡ false
  other_key k x less = elim (cases_Bool (eq_by_cmp R x k)) [
    | inl also ↦
        let one : x ≡ k = exact x k (tied _ also) in
        let even : R k x ≡ Equal = ap (R k) one ∙ tied_itself o k in
        absurd (let h : true ≡ false = sym less ∙ ap is_lt even in cc)
    | inr other ↦ other
  ]

  -- rows find among others what they find there without a row of a lesser key
  without_first : (e : K × V) (es fs : List (K × V)) → below_all R e.0 fs ≡ true →
      lacking R same (e ∷ es) fs ≡ lacking R same es fs
  without_first e es [] below = refl
  without_first e es (f ∷ fs) below =
      let parts = and_parts _ _ below in
      ap (λ t. cond (not (has_same same (cond t (Some e.1) (find R f.0 es)) f.1)) (f ∷
      lacking R same (e ∷ es) fs) (lacking R same (e ∷ es) fs)) (other_key e.0 f.0 parts.0)
      ∙ ap (λ l. cond (not (has_same same (find R f.0 es) f.1)) (f ∷ l) l)
      (without_first e es fs parts.1)

  pub lacks_nothing : (es : List (K × V)) → is_sorted R es ≡ true → lacking R same es es ≡ []
  lacks_nothing [] up = refl
  lacks_nothing (e ∷ es) up =
      let parts = and_parts _ _ up in
      let here : eq_by_cmp R e.0 e.0 ≡ true = ap is_eq (tied_itself o e.0) in
      ap (λ t. cond (not (has_same same (cond t (Some e.1) (find R e.0 es)) e.1)) (e ∷
      lacking R same (e ∷ es) es) (lacking R same (e ∷ es) es)) here
      ∙ ap (λ t. cond (not t) (e ∷ lacking R same (e ∷ es) es) (lacking R same (e ∷ es) es))
      (itself e.1) ∙ without_first e es es parts.0 ∙ lacks_nothing es parts.1

-- ---- the rows of one ring

unchanged_parts : (name : List ℕ) (ring : RingRecord) → lacking name_number_cmp is_same_part
    (part_entries_of (name, ring)) (part_entries_of (name, ring)) ≡ []
unchanged_parts name ring =
    lacks_nothing name_number_total name_number_exact is_same_part part_itself
    (part_entries_of (name, ring)) (sorted_rows name (λ (p : ℕ × Option ℕ). p.0)
    (λ p. (part_entry name ring.replicas ring.seats p).1) (enumerate_from 0 ring.moved)
    (places_up 0 ring.moved))

unchanged_devices : (name : List ℕ) (devices : List Device) → IsStrictlyIncreasing
    (map (λ (d : Device). d.id) devices) → lacking name_number_cmp is_same_device
    (map (device_entry name) devices) (map (device_entry name) devices) ≡ []
unchanged_devices name devices rise =
    lacks_nothing name_number_total name_number_exact is_same_device device_itself
    (map (device_entry name) devices) (sorted_rows name (λ (d : Device). d.id)
    (λ d. (device_entry name d).1) devices (up_of (map (λ (d : Device). d.id) devices) rise))

-- a ring with the same seats and last moves as the old one has the same rows of partitions
pub same_parts : (name : List ℕ) (old : Option RingRecord) (ring : RingRecord) → IsSomeAnd old
    (λ before. (before.replicas ≡ ring.replicas) × (before.seats ≡ ring.seats)
    × (before.moved ≡ ring.moved)) → rows_at part_entries_of name old ≡ part_entries_of
    (name, ring)
same_parts name None ring same = absurd same
same_parts name (Some before) ring same = λ i. map (part_entry name (same.0 i) (same.1 i))
    (enumerate_from 0 (same.2 i))

-- and adds none
pub adds_no_part : (before : List (NameNumber × rows.Part)) (name : List ℕ)
    (old : Option RingRecord) (ring : RingRecord) → rows_at part_entries_of name old ≡ part_entries_of (name, ring)
    → before ≡ before ++ lacking name_number_cmp is_same_part (rows_at part_entries_of name old)
    (part_entries_of (name, ring))
adds_no_part before name old ring same = sym (ap (λ es. before ++ es) (ap
    (λ es. lacking name_number_cmp is_same_part es (part_entries_of (name, ring))) same
    ∙ unchanged_parts name ring) ∙ append-nil before)

-- nor do the same devices add one of a device
pub adds_no_device : (before : List (NameNumber × rows.Device)) (name : List ℕ)
    (others devices : List Device) → IsStrictlyIncreasing (map (λ (d : Device). d.id) devices)
    → others ≡ devices → before ≡ before ++ lacking name_number_cmp is_same_device
    (map (device_entry name) others) (map (device_entry name) devices)
adds_no_device before name others devices rise same = sym (ap (λ es. before ++ es) (ap
    (λ ds. lacking name_number_cmp is_same_device (map (device_entry name) ds)
    (map (device_entry name) devices)) same ∙ unchanged_devices name devices rise)
    ∙ append-nil before)

-- ---- devices that are there

there_still : (e : Device) (ds es : List Device) → AllByRecursion (λ (x : Device). is_none
    (device_in x.id ds) ≡ false) es → AllByRecursion (λ (x : Device). is_none
    (device_in x.id (e ∷ ds)) ≡ false) es
there_still e ds [] all = tt
there_still e ds (x ∷ xs) all = (
  elim (cases_Bool (e.id == x.id)) [
    | inl here ↦ ap (λ t. is_none (option_map device_value (cond t (Some e)
        (std.find (λ (d : Device). d.id == x.id) ds)))) here
    | inr other ↦ ap (λ t. is_none (option_map device_value (cond t (Some e)
        (std.find (λ (d : Device). d.id == x.id) ds)))) other ∙ all.0
  ],
  there_still e ds xs all.1,
)

each_there : (ds : List Device) → AllByRecursion (λ (x : Device). is_none (device_in x.id ds)
    ≡ false) ds
each_there [] = tt
each_there (d ∷ ds) = (
  ap (λ t. is_none (option_map device_value (cond t (Some d)
      (std.find (λ (x : Device). x.id == d.id) ds)))) ((Decides-eqb d.id d.id).1 refl),
  there_still d ds ds (each_there ds),
)

-- the count that goes on from another
abbrev sum_from : {X : Type 0} → ℕ → (X → Bool) → List X → ℕ
sum_from n p xs = fold (λ a x. a + cond (p x) 1 0) n xs

counts_none : {X : Type 0} (p : X → Bool) (xs : List X) → AllByRecursion (λ (x : X). p x ≡ false) xs
    → 0 ≡ count_by p xs
counts_none p [] none = refl
counts_none p (x ∷ xs) none = counts_none p xs none.1 ∙ ap (λ t. sum_from (0 + cond t 1 0) p xs)
    (sym none.0)

-- none of the same devices is gone
pub none_gone_of : (others devices : List Device) → others ≡ devices → 0 ≡ count_by
    (λ (d : Device). is_none (device_in d.id others)) devices
none_gone_of others devices same = subst (λ ds. 0 ≡ count_by (λ (d : Device). is_none
    (device_in d.id ds)) devices) (sym same) (counts_none _ devices (each_there devices))

-- ---- what `==` tells

one_maybe : (a b : Option ℕ) → Decides (option_eq (λ x y. x == y) a b) (a ≡ b)
one_maybe None None = (λ t. refl, λ e. refl)
one_maybe None (Some y) = (λ t. cc, λ e. cc)
one_maybe (Some x) None = (λ t. cc, λ e. cc)
one_maybe (Some x) (Some y) = (
  λ t. ap Some ((Decides-eqb x y).0 t),
  λ e. (Decides-eqb x y).1 (let same : x ≡ y = cc in same),
)

one_device : (a b : Device) → Decides ((a.id == b.id) && (is_same_row a.row b.row && beq a.removed
    b.removed)) (a ≡ b)
one_device a b = (
  λ t.
      let id = and_parts _ _ t in
      let row = and_parts _ _ id.1 in
      let number = (Decides-eqb a.id b.id).0 id.0 in
      let same = (one_row a.row b.row).0 row.0 in
      let mark = (booleans_Decides a.removed b.removed).0 row.1 in
      λ i. record { id = number i; row = same i; removed = mark i },
  λ e. and_from _ _ ((Decides-eqb a.id b.id).1 (ap (λ (d : Device). d.id) e)) (and_from _ _
      ((one_row a.row b.row).1 (ap (λ (d : Device). d.row) e)) ((booleans_Decides a.removed
      b.removed).1 (ap (λ (d : Device). d.removed) e))),
)

pub same_devices : (xs ys : List Device) (r : Bool) → r ≡ pointwise (λ a b. (a.id == b.id) &&
    (is_same_row a.row b.row && beq a.removed b.removed)) xs ys → r ≡ true → xs ≡ ys
same_devices xs ys r is t = (slice_eq-Decides one_device xs ys r is).0 t

pub same_moves : (xs ys : List (Option ℕ)) (r : Bool) → r ≡ pointwise (option_eq (λ x y. x == y)) xs
    ys → IsTrue r → xs ≡ ys
same_moves xs ys r is t = (slice_eq-Decides one_maybe xs ys r is).0 t
