-- Rings that differ from others at one name alone: so do their rows.
use Rattle.std.proofs.Common.{◌≡◌, inl, inr, ℕ, Bool, true, false, not, cond, List, [], ◌∷◌, ◌++◌}
use Rattle.std.proofs.Common.{map, filter, length, ◌≤◌, Option, Some, None, IfSome, Less, refl}
use Rattle.std.proofs.Common.{sym, ap, subst, ◌∙◌, append-nil, is_none, nat_eq, rules}
use Rattle.std.proofs.Common as std
use Rattle.std.specs.List.{AllByRecursion, count_by, flat_map}
use Rattle.std.specs.Option.{option_map}
use Rattle.std.specs.Cmp.Lexicographic.{pointwise}
use Rattle.std.specs.FinMap.{find, is_sorted}
use Rattle.std.proofs.lemmas.Bool.{cases_Bool}
use Rattle.std.proofs.lemmas.List.Elements.{filter-append, recursion_from_All}
use Rattle.std.proofs.lemmas.Slice.Eq.{bytes_eq-Decides}
use Rattle.ring_model.specs.Ring.{RingRecord}
use Rattle.ring_model.specs.Rings.{ring_at}
use Rattle.ring_model.specs.Valid.{IsValid}
use Rattle.ring_words.specs.declared.device.Device.{Device}
use Rattle.store_model.specs.Contents.{device_of, part_of, published_of, ring_of}
use Rattle.store_model.specs.Entries as rows
use Rattle.store_model.specs.Entries.{NameNumber, name_cmp, name_number_cmp}
use Rattle.store_model.proofs.Keys.{name_number_exact, name_number_total}
use Rattle.store_rows.specs.RingRows.{NamedRings, device_entries, device_entry, part_entries_of}
use Rattle.store_rows.specs.RingRows.{part_entries, published_entries, ring_entries, ring_entry}
use Rattle.store_rows.specs.Stands.{AreRings, IsNamedRing}
use Rattle.store_rows.specs.Differences.{Grows, IsChangedAt, has_same, is_same_device}
use Rattle.store_rows.specs.Differences.{is_same_part, is_same_ring, is_same_text}
use Rattle.store_rows.specs.Inner.Lacking.{Succeeds, added_ring, device_entries_of, device_in, gone}
use Rattle.store_rows.specs.Inner.Lacking.{lacking, ring_value, rows_at, text_entries_of}
use Rattle.store_rows.specs.Inner.Written.{AreNone, AreRowsBetween, AreRowsOfRing, parts_from}
use Rattle.store_rows.specs.declared.written.WrittenRows.{WrittenRows}
use Rattle.store_rows.proofs.Blocks.{lacking_of}
use Rattle.store_rows.proofs.Changing.{Later, ring_itself, valid_at}
use Rattle.store_rows.proofs.Counting.{alike_filter, gone_count}
use Rattle.store_rows.proofs.NewParts.{keys_lacked, new_of_one}
use Rattle.store_rows.proofs.OneRings.{no_less}
use Rattle.store_rows.proofs.Ordered.{NamedAs, Rising, devices_named, devices_of_sorted}
use Rattle.store_rows.proofs.Ordered.{parts_named, parts_of_sorted, texts_named, texts_of_sorted}
use Rattle.store_rows.proofs.Ordered.{up}
use Rattle.store_rows.proofs.Sameness.{device_itself, part_itself, same_bytes}
use Rattle.store_rows.proofs.Steps.{find_ring, others_are}
use Rattle.store_rows.proofs.Unchanged.{lacks_nothing}

-- each of these rings is what the rings have under its name
abbrev AreAt : NamedRings → NamedRings → Type 0
AreAt rings all = AllByRecursion (λ (e : List ℕ × RingRecord). ring_at e.0 all ≡ Some e.1) rings

at_once : (e : List ℕ × RingRecord) (name : List ℕ) (es : NamedRings) → e.0 ≡ name →
    ring_at name (e ∷ es) ≡ Some e.1
at_once e name es same = ap (λ b. option_map (λ (x : List ℕ × RingRecord). x.1) (cond b (Some e)
    (std.find (λ (x : List ℕ × RingRecord). pointwise nat_eq x.0 name) es)))
    ((bytes_eq-Decides e.0 name).1 same)

unlike_name : (one other : List ℕ) → (one ≡ other → ⊥) → pointwise nat_eq one other ≡ false
unlike_name one other apart = elim (cases_Bool (pointwise nat_eq one other)) [
  | inl t ↦ absurd (apart ((bytes_eq-Decides one other).0 t))
  | inr f ↦ f
]

at_later : (e : List ℕ × RingRecord) (name : List ℕ) (es : NamedRings) → (e.0 ≡ name → ⊥) →
    ring_at name (e ∷ es) ≡ ring_at name es
at_later e name es apart = ap (λ b. option_map (λ (x : List ℕ × RingRecord). x.1) (cond b (Some e)
    (std.find (λ (x : List ℕ × RingRecord). pointwise nat_eq x.0 name) es))) (unlike_name e.0 name
    apart)

-- names that rise are apart
apart_names : (name other : List ℕ) → name_cmp name other ≡ Less → name ≡ other → ⊥
apart_names name other less same = no_less name other (sym same) less

at_more : (e : List ℕ × RingRecord) (all es : NamedRings) →
    AllByRecursion (λ (x : List ℕ × RingRecord). name_cmp e.0 x.0 ≡ Less) es → AreAt es all →
    AreAt es (e ∷ all)
at_more e all [] above at = tt
at_more e all (x ∷ xs) above at = (
  at_later e x.0 all (apart_names e.0 x.0 above.0) ∙ at.0,
  at_more e all xs above.1 at.1,
)

-- rings by rising name are found under their names
at_themselves : (es : NamedRings) → Rising es → AreAt es es
at_themselves [] rise = tt
at_themselves (e ∷ es) rise = (at_once e e.0 es refl, at_more e es es rise.0 (at_themselves es rise.1))

not_there : (name : List ℕ) (es : NamedRings) →
    AllByRecursion (λ (x : List ℕ × RingRecord). name_cmp name x.0 ≡ Less) es →
    ring_at name es ≡ None
not_there name [] above = refl
not_there name (x ∷ xs) above = at_later x name xs (λ same. no_less name x.0 same above.0) ∙ not_there
    name xs above.1

-- old rings and others, that differ at this name alone
module _ (name : List ℕ) (old new : NamedRings) (p : AreRings old) (q : AreRings new)
    (others : (other : List ℕ) → (other ≡ name → ⊥) → ring_at other new ≡ ring_at other old) where
  module _ {V : Type 0} (same : V → V → Bool) (itself : (v : V) → same v v ≡ true)
      (rows_of : List ℕ × RingRecord → List (NameNumber × V))
      (named : (e : List ℕ × RingRecord) → NamedAs e.0 (rows_of e))
      (sorted_of : (e : List ℕ × RingRecord) → IsNamedRing e →
      is_sorted name_number_cmp (rows_of e) ≡ true) where
    abbrev Lacked : List (NameNumber × V) → List (NameNumber × V)
    Lacked es = lacking name_number_cmp same (flat_map rows_of old) es

    of_ring : (e : List ℕ × RingRecord) → Lacked (rows_of e) ≡ lacking name_number_cmp same
        (rows_at rows_of e.0 (ring_at e.0 old)) (rows_of e)
    of_ring e = lacking_of rows_of named same old e (up old p)

    of_other : (e : List ℕ × RingRecord) → (e.0 ≡ name → ⊥) → ring_at e.0 new ≡ Some e.1 →
        IsNamedRing e → Lacked (rows_of e) ≡ []
    of_other e apart at held =
        of_ring e
        ∙ ap (λ o. lacking name_number_cmp same (rows_at rows_of e.0 o) (rows_of e))
        (sym (others e.0 apart) ∙ at)
        ∙ lacks_nothing name_number_total name_number_exact same itself (rows_of e) (sorted_of e held)

    of_these : (es : NamedRings) → Rising es → AreAt es new → AllByRecursion IsNamedRing es →
        Lacked (flat_map rows_of es) ≡ Lacked (rows_at rows_of name (ring_at name es))
    of_these [] rise at held = refl
    of_these (e ∷ es) rise at held = elim (cases_Bool (pointwise nat_eq e.0 name)) [
      | inl t ↦
          let here : e.0 ≡ name = (bytes_eq-Decides e.0 name).0 t in
          let none : ring_at name es ≡ None = not_there name es
          (subst (λ n. AllByRecursion (λ (x : List ℕ × RingRecord). name_cmp n x.0 ≡ Less) es) here
          rise.0) in
          filter-append _ (rows_of e) (flat_map rows_of es)
          ∙ ap (λ xs. Lacked (rows_of e) ++ xs) (of_these es rise.1 at.1 held.1 ∙ ap
          (λ o. Lacked (rows_at rows_of name o)) none)
          ∙ append-nil (Lacked (rows_of e))
          ∙ ap (λ n. Lacked (rows_of (n, e.1))) here
          ∙ sym (ap (λ o. Lacked (rows_at rows_of name o)) (at_once e name es here))
      | inr f ↦
          let apart : e.0 ≡ name → ⊥ = λ here. (let no : true ≡ false =
          sym ((bytes_eq-Decides e.0 name).1 here) ∙ f in cc) in
          filter-append _ (rows_of e) (flat_map rows_of es)
          ∙ ap (λ xs. xs ++ Lacked (flat_map rows_of es)) (of_other e apart at.0 held.0)
          ∙ of_these es rise.1 at.1 held.1
          ∙ sym (ap (λ o. Lacked (rows_at rows_of name o)) (at_later e name es apart))
    ]

    of_one : (o : Option RingRecord) → Lacked (rows_at rows_of name o) ≡ lacking name_number_cmp same
        (rows_at rows_of name (ring_at name old)) (rows_at rows_of name o)
    of_one None = refl
    of_one (Some ring) = of_ring (name, ring)

    -- what the old rings lack, the old ring of the name lacks
    lacking_at : lacking name_number_cmp same (flat_map rows_of old) (flat_map rows_of new)
        ≡ lacking name_number_cmp same (rows_at rows_of name (ring_at name old))
        (rows_at rows_of name (ring_at name new))
    lacking_at = of_these new (up new q) (at_themselves new (up new q))
        (recursion_from_All IsNamedRing new q.each) ∙ of_one (ring_at name new)

  -- ---- the rows of rings themselves

  abbrev added_at : Option RingRecord → Option RingRecord → List (List ℕ × rows.Ring)
  added_at was None = []
  added_at was (Some ring) = added_ring was (name, ring)

  lacked_ring : (e : List ℕ × RingRecord) (es : List (List ℕ × rows.Ring)) →
      lacking name_cmp is_same_ring (ring_entries old) (ring_entry e ∷ es) ≡
      added_ring (ring_at e.0 old) e ++ lacking name_cmp is_same_ring (ring_entries old) es
  lacked_ring e es =
      let left = lacking name_cmp is_same_ring (ring_entries old) es in
      ap (λ o. cond (not (has_same is_same_ring o (ring_value e.1))) (ring_entry e ∷ left) left)
      (find_ring e.0 old) ∙ parted (not (has_same is_same_ring (option_map ring_value (ring_at
      e.0 old)) (ring_value e.1))) left
    where
      parted : (b : Bool) (left : List (List ℕ × rows.Ring)) → cond b (ring_entry e ∷ left) left ≡
          cond b (ring_entry e ∷ []) [] ++ left
      parted true left = refl
      parted false left = refl

  itself_added : (e : List ℕ × RingRecord) → added_ring (Some e.1) e ≡ []
  itself_added e = ap (λ b. cond (not b) (ring_entry e ∷ []) []) (ring_itself (ring_value e.1))

  rings_of_these : (es : NamedRings) → Rising es → AreAt es new →
      lacking name_cmp is_same_ring (ring_entries old) (ring_entries es) ≡ added_at
      (ring_at name old) (ring_at name es)
  rings_of_these [] rise at = refl
  rings_of_these (e ∷ es) rise at = elim (cases_Bool (pointwise nat_eq e.0 name)) [
    | inl t ↦
        let here : e.0 ≡ name = (bytes_eq-Decides e.0 name).0 t in
        let none : ring_at name es ≡ None = not_there name es
        (subst (λ n. AllByRecursion (λ (x : List ℕ × RingRecord). name_cmp n x.0 ≡ Less) es) here
        rise.0) in
        lacked_ring e (ring_entries es)
        ∙ ap (λ xs. added_ring (ring_at e.0 old) e ++ xs) (rings_of_these es rise.1 at.1 ∙ ap
        (added_at (ring_at name old)) none)
        ∙ append-nil (added_ring (ring_at e.0 old) e)
        ∙ ap (λ n. added_ring (ring_at n old) (n, e.1)) here
        ∙ sym (ap (added_at (ring_at name old)) (at_once e name es here))
    | inr f ↦
        let apart : e.0 ≡ name → ⊥ = λ here. (let no : true ≡ false =
        sym ((bytes_eq-Decides e.0 name).1 here) ∙ f in cc) in
        lacked_ring e (ring_entries es)
        ∙ ap (λ xs. xs ++ lacking name_cmp is_same_ring (ring_entries old) (ring_entries es))
        (ap (λ o. added_ring o e) (sym (others e.0 apart) ∙ at.0) ∙ itself_added e)
        ∙ rings_of_these es rise.1 at.1
        ∙ sym (ap (added_at (ring_at name old)) (at_later e name es apart))
  ]

  rings_at : lacking name_cmp is_same_ring (ring_entries old) (ring_entries new) ≡ added_at
      (ring_at name old) (ring_at name new)
  rings_at = rings_of_these new (up new q) (at_themselves new (up new q))

-- ---- how many devices are gone

-- any two rows of a device are taken for the same
abbrev any_device : rows.Device → rows.Device → Bool
any_device a b = true

missing : (o : Option rows.Device) (v : rows.Device) → is_none o ≡ not (has_same any_device o v)
missing None v = refl
missing (Some w) v = refl

gone_lacking : (olds news : List (NameNumber × rows.Device)) → gone name_number_cmp olds news ≡
    lacking name_number_cmp any_device news olds
gone_lacking olds news = alike_filter _ _ (λ e. missing (find name_number_cmp e.0 news) e.1) olds

-- ---- a ring and the old ring of its name

succeeds_from : (was is : Option RingRecord) (ring : RingRecord) → is ≡ Some ring →
    IfSome was IsValid → IfSome is IsValid → ((earlier : RingRecord) → was ≡ Some earlier →
    Later is earlier) → IfSome was (λ earlier. Succeeds earlier ring)
succeeds_from None is ring at valid_old valid_new grows = tt
succeeds_from (Some earlier) is ring at valid_old valid_new grows = record {
  before = valid_old;
  valid = subst (λ o. IfSome o IsValid) at valid_new;
  texts = (subst (λ o. Later o earlier) at (grows earlier refl)).1;
}

none_before : (was is : Option RingRecord) → is ≡ None → ((earlier : RingRecord) →
    was ≡ Some earlier → Later is earlier) → was ≡ None
none_before None is at grows = refl
none_before (Some earlier) is at grows = absurd (subst (λ o. Later o earlier) at (grows earlier
    refl))

-- ---- all rows

module _ (name : List ℕ) (old new : NamedRings) (p : AreRings old) (q : AreRings new)
    (changed : IsChangedAt name old new) where
  abbrev was : Option RingRecord
  was = ring_at name old

  abbrev is : Option RingRecord
  is = ring_at name new

  back : (other : List ℕ) → (other ≡ name → ⊥) → ring_at other old ≡ ring_at other new
  back other apart = sym (changed.others other apart)

  rings_differ : lacking name_cmp is_same_ring (ring_entries old) (ring_entries new) ≡ added_at
      name old new p q changed.others was is
  rings_differ = rings_at name old new p q changed.others

  devices_differ : lacking name_number_cmp is_same_device (device_entries old) (device_entries new)
      ≡ lacking name_number_cmp is_same_device (rows_at device_entries_of name was)
      (rows_at device_entries_of name is)
  devices_differ = lacking_at name old new p q changed.others is_same_device device_itself
      device_entries_of devices_named devices_of_sorted

  dropped_differ : lacking name_number_cmp is_same_device (device_entries new) (device_entries old)
      ≡ lacking name_number_cmp is_same_device (rows_at device_entries_of name is)
      (rows_at device_entries_of name was)
  dropped_differ = lacking_at name new old q p back is_same_device device_itself
      device_entries_of devices_named devices_of_sorted

  parts_differ : lacking name_number_cmp is_same_part (part_entries old) (part_entries new)
      ≡ lacking name_number_cmp is_same_part (rows_at part_entries_of name was)
      (rows_at part_entries_of name is)
  parts_differ = lacking_at name old new p q changed.others is_same_part part_itself part_entries_of
      parts_named parts_of_sorted

  texts_differ : lacking name_number_cmp is_same_text (published_entries old)
      (published_entries new) ≡ lacking name_number_cmp is_same_text
      (rows_at text_entries_of name was) (rows_at text_entries_of name is)
  texts_differ = lacking_at name old new p q changed.others is_same_text same_bytes text_entries_of
      texts_named texts_of_sorted

  gone_differ : length (gone name_number_cmp (device_entries old) (device_entries new)) ≡ length
      (gone name_number_cmp (rows_at device_entries_of name was) (rows_at device_entries_of name is))
  gone_differ = ap length (gone_lacking (device_entries old) (device_entries new)
      ∙ lacking_at name new old q p back any_device (λ v. refl) device_entries_of devices_named
      devices_of_sorted
      ∙ sym (gone_lacking (rows_at device_entries_of name was) (rows_at device_entries_of name is)))

  -- where the new rings have the ring
  pub rows_of_one : (ring : RingRecord) (made : WrittenRows) → is ≡ Some ring →
      AreRowsOfRing name was ring made → AreRowsBetween old new made
  rows_of_one ring made at are = record {
    dropped = are.dropped ∙ ap (λ o. lacking name_number_cmp is_same_device (rows_at
        device_entries_of name o) (rows_at device_entries_of name was)) (sym at) ∙ sym
        dropped_differ;
    rings = are.rings ∙ ap (added_at name old new p q changed.others was) (sym at) ∙ sym
        rings_differ;
    devices = are.devices ∙ ap (λ o. lacking name_number_cmp is_same_device (rows_at
        device_entries_of name was) (rows_at device_entries_of name o)) (sym at) ∙ sym
        devices_differ;
    parts = are.parts ∙ ap (λ o. lacking name_number_cmp is_same_part (rows_at part_entries_of name
        was) (rows_at part_entries_of name o)) (sym at) ∙ sym parts_differ;
    added = (λ i. parts_from (are.known i) (are.parts i)) ∙ new_of_one name old p new ring
        (ap (λ o. lacking name_number_cmp is_same_part (rows_at part_entries_of name was)
        (rows_at part_entries_of name o)) (sym at) ∙ sym parts_differ);
    texts = are.texts (succeeds_from was is ring at (valid_at name old p) (valid_at name new q)
        (changed.grows name)) ∙ ap (λ o. lacking name_number_cmp is_same_text (rows_at
        text_entries_of name was) (rows_at text_entries_of name o)) (sym at) ∙ sym texts_differ;
  }

  pub gone_of_one : (ring : RingRecord) (n : ℕ) → is ≡ Some ring → n ≡ count_by (λ (d : Device).
      is_none (device_in d.id ring.devices)) (rows_at (λ (e : List ℕ × RingRecord). e.1.devices) []
      was) → n ≡ length (gone name_number_cmp (device_entries old) (device_entries new))
  gone_of_one ring n at count =
      let devices = rows_at (λ (e : List ℕ × RingRecord). e.1.devices) [] was in
      count ∙ sym (gone_count name devices ring.devices)
      ∙ ap (λ es. length (gone name_number_cmp es (map (device_entry name) ring.devices)))
      (others_are name was)
      ∙ ap (λ o. length (gone name_number_cmp (rows_at device_entries_of name was) (rows_at
      device_entries_of name o))) (sym at) ∙ sym gone_differ

  -- and where they have not
  none_was : is ≡ None → was ≡ None
  none_was at = none_before was is at (changed.grows name)

  pub rows_of_none : (made : WrittenRows) → is ≡ None → AreNone made → AreRowsBetween old new made
  rows_of_none made at are = record {
    dropped = ap (map device_of) are.dropped ∙ ap (λ o. lacking name_number_cmp is_same_device
        (rows_at device_entries_of name is) (rows_at device_entries_of name o)) (sym (none_was at)) ∙
        sym dropped_differ;
    rings = ap (map ring_of) are.rings ∙ ap (added_at name old new p q changed.others was) (sym at)
        ∙ sym rings_differ;
    devices = ap (map device_of) are.devices ∙ ap (λ o. lacking name_number_cmp is_same_device
        (rows_at device_entries_of name was) (rows_at device_entries_of name o)) (sym at) ∙ sym
        devices_differ;
    parts = ap (map part_of) are.parts ∙ ap (λ o. lacking name_number_cmp is_same_part (rows_at
        part_entries_of name was) (rows_at part_entries_of name o)) (sym at) ∙ sym parts_differ;
    added = ap (λ rs. parts_from made.known (map part_of rs)) are.parts ∙ ap
        (filter (λ (e : NameNumber × rows.Part). is_none (find name_number_cmp e.0
        (part_entries old)))) (ap (λ o. lacking name_number_cmp is_same_part (rows_at
        part_entries_of name was) (rows_at part_entries_of name o)) (sym at) ∙ sym
        parts_differ) ∙ keys_lacked name_number_cmp is_same_part (part_entries old)
        (part_entries new);
    texts = ap (map published_of) are.texts ∙ ap (λ o. lacking name_number_cmp is_same_text (rows_at
        text_entries_of name was) (rows_at text_entries_of name o)) (sym at) ∙ sym texts_differ;
  }

  pub gone_of_none : is ≡ None → 0 ≡ length (gone name_number_cmp (device_entries old)
      (device_entries new))
  gone_of_none at = ap (λ o. length (gone name_number_cmp (rows_at device_entries_of name o)
      (rows_at device_entries_of name is))) (sym (none_was at)) ∙ sym gone_differ

-- ---- where there were no rings

pub no_rings : AreRings []
no_rings = search rules

pub nothing_goes : (new : NamedRings) → Grows [] new
nothing_goes new = λ name ring at. absurd (let none : None ≡ Some ring = at in cc)
