-- The change from some rings to others.
use Rattle.std.proofs.Common.{◌≡◌, ◌⊎◌, inl, inr, ℕ, zero, suc, ◌+◌, ◌<◌, ◌≤◌, ◌^◌, ℤ, pos, negsuc}
use Rattle.std.proofs.Common.{◌&&◌, Bool, true, false, not, cond, List, [], ◌∷◌, ◌++◌, map, length}
use Rattle.std.proofs.Common.{Option, Some, None, IfSome, IsTrue, All, refl, sym, ap, subst, ◌∙◌}
use Rattle.std.proofs.Common.{nat_eq, int_lt, is_some, arith, append-nil}
use Rattle.std.proofs.Common as std
use Rattle.std.specs.Prelude.{IsSomeAnd}
use Rattle.std.specs.List.{AllByRecursion, flat_map, enumerate_from, slice_get}
use Rattle.std.specs.Option.{option_map}
use Rattle.std.specs.Ordering.{eq_by_cmp, int_eq}
use Rattle.std.specs.Cmp.Lexicographic.{pointwise}
use Rattle.std.specs.FinMap.{find, from_entries}
use Rattle.std.proofs.Math.Nat.{pow-le-pow_right}
use Rattle.std.proofs.lemmas.Bool.{cases_Bool, and_parts, and_from}
use Rattle.std.proofs.lemmas.Bool.Decides.{Decides-int_eq}
use Rattle.std.proofs.lemmas.Slice.Eq.{bytes_eq-Decides}
use Rattle.std.proofs.lemmas.Option.{slice_get-get_or, slice_get_past}
use Rattle.std.proofs.lemmas.List.Elements.{recursion_from_All, All-from_recursion}
use Rattle.std.proofs.lemmas.Grind.{flat_map-append}
use Rattle.ring_model.specs.Ring.{RingRecord, published_at}
use Rattle.ring_model.specs.Rings.{ring_at}
use Rattle.ring_model.specs.Valid.{IsValid}
use Rattle.store_model.specs.Entries as rows
use Rattle.store_model.specs.Entries.{NameNumber, name_cmp, name_number_cmp}
use Rattle.store_model.specs.Contents.{Contents, device_key, ring_of, device_of, part_of}
use Rattle.store_model.specs.Contents.{published_of}
use Rattle.store_model.specs.Changes.{changed_all}
use Rattle.store_model.specs.declared.change.RowChange.{RowChange}
use Rattle.store_model.specs.declared.change.RowChange.TheVariants.{DropDevice, PutRing}
use Rattle.store_model.specs.declared.change.RowChange.TheVariants.{AddDevice, PutPart, AddPart}
use Rattle.store_model.specs.declared.change.RowChange.TheVariants.{PutPublished}
use Rattle.store_model.specs.declared.rows.DeviceKey.{DeviceKey}
use Rattle.store_model.specs.declared.rows.DeviceRow.{DeviceRow}
use Rattle.store_model.specs.declared.rows.RingRow.{RingRow}
use Rattle.store_model.specs.declared.rows.PartRow.{PartRow}
use Rattle.store_model.specs.declared.rows.PublishedRow.{PublishedRow}
use Rattle.store_model.proofs.Keys.{name_total, name_exact, name_number_total, name_number_exact}
use Rattle.store_model.proofs.Keys.{tied}
use Rattle.store_rows.specs.RingRows.{NamedRings, ring_entries, device_entries, part_entry}
use Rattle.store_rows.specs.RingRows.{part_entries_of, part_entries, published_entry}
use Rattle.store_rows.specs.RingRows.{published_entries}
use Rattle.store_rows.specs.Stands.{AreRings, IsNamedRing, RingContent, contents_for}
use Rattle.store_rows.specs.Differences.{Grows, KeepsTexts, WritesDifferences, is_same_ring, is_same_device}
use Rattle.store_rows.specs.Differences.{is_same_part, is_same_text, with_state, ring_written}
use Rattle.store_rows.specs.Differences.{device_written, device_dropped, part_added, part_written}
use Rattle.store_rows.specs.Differences.{text_written}
use Rattle.store_rows.specs.Differences.{differing_rows, gone_entries, new_entries}
use Rattle.store_rows.specs.Inner.Lacking.{gone, lacking, rows_at, part_in, part_value, ring_value}
use Rattle.store_rows.specs.Inner.Lacking.{text_in, text_entries_of}
use Rattle.store_rows.specs.Inner.Written.{part_change, parts_from}
use Rattle.store_rows.proofs.RequestKeys.{holds_of_found}
use Rattle.store_rows.proofs.Ordered.{up, rings_sorted, devices_sorted, parts_sorted, texts_sorted}
use Rattle.store_rows.proofs.Ordered.{parts_named, texts_named}
use Rattle.store_rows.proofs.Sameness.{device_itself, part_itself, same_int, same_bytes}
use Rattle.store_rows.proofs.Blocks.{find_in}
use Rattle.store_rows.proofs.Steps.{find_ring, find_part, find_text}
use Rattle.store_rows.proofs.Counting.{gone_are, none_gone}
use Rattle.std.proofs.lemmas.List.{length-map}
use Rattle.store_rows.proofs.Applied.{put_all, remove_all, changed-append, drops_are, rings_are}
use Rattle.store_rows.proofs.Applied.{devices_are, parts_are, texts_are, differences_make}
use Rattle.store_rows.proofs.Applied.{exchanges_make, new_are}

-- ---- rows that say the same are one

one_number : (a b : ℤ) → int_eq a b ≡ true → a ≡ b
one_number a b t = (Decides-int_eq a b).0 t

ring_one : (v w : rows.Ring) → is_same_ring v w ≡ true → v ≡ w
ring_one v w t =
    let p0 = and_parts (int_eq v.power w.power) (int_eq v.replicas w.replicas &&
    (int_eq v.min_hours w.min_hours && (int_eq v.next_id w.next_id &&
    (int_eq v.version w.version)))) t in
    let power_is = one_number v.power w.power p0.0 in
    let p1 = and_parts (int_eq v.replicas w.replicas) (int_eq v.min_hours w.min_hours &&
    (int_eq v.next_id w.next_id && (int_eq v.version w.version))) p0.1 in
    let replicas_is = one_number v.replicas w.replicas p1.0 in
    let p2 = and_parts (int_eq v.min_hours w.min_hours) (int_eq v.next_id w.next_id &&
    (int_eq v.version w.version)) p1.1 in
    let min_hours_is = one_number v.min_hours w.min_hours p2.0 in
    let p3 = and_parts (int_eq v.next_id w.next_id) (int_eq v.version w.version) p2.1 in
    let next_id_is = one_number v.next_id w.next_id p3.0 in
    let version_is = one_number v.version w.version p3.1 in
    λ i. record {
      power = power_is i;
      replicas = replicas_is i;
      min_hours = min_hours_is i;
      next_id = next_id_is i;
      version = version_is i;
    }

pub ring_itself : (v : rows.Ring) → is_same_ring v v ≡ true
ring_itself v = and_from _ _ (same_int v.power) (and_from _ _ (same_int v.replicas)
    (and_from _ _ (same_int v.min_hours) (and_from _ _ (same_int v.next_id) (same_int v.version))))

device_one : (v w : rows.Device) → is_same_device v w ≡ true → v ≡ w
device_one v w t =
    let p0 = and_parts (int_eq v.region w.region) (int_eq v.zone w.zone &&
    (pointwise nat_eq v.address w.address && (int_eq v.port w.port &&
    (pointwise nat_eq v.name w.name && (int_eq v.weight w.weight &&
    (int_eq v.removed w.removed)))))) t in
    let region_is = one_number v.region w.region p0.0 in
    let p1 = and_parts (int_eq v.zone w.zone) (pointwise nat_eq v.address w.address &&
    (int_eq v.port w.port && (pointwise nat_eq v.name w.name && (int_eq v.weight w.weight &&
    (int_eq v.removed w.removed))))) p0.1 in
    let zone_is = one_number v.zone w.zone p1.0 in
    let p2 = and_parts (pointwise nat_eq v.address w.address) (int_eq v.port w.port &&
    (pointwise nat_eq v.name w.name && (int_eq v.weight w.weight &&
    (int_eq v.removed w.removed)))) p1.1 in
    let address_is = (bytes_eq-Decides v.address w.address).0 p2.0 in
    let p3 = and_parts (int_eq v.port w.port) (pointwise nat_eq v.name w.name &&
    (int_eq v.weight w.weight && (int_eq v.removed w.removed))) p2.1 in
    let port_is = one_number v.port w.port p3.0 in
    let p4 = and_parts (pointwise nat_eq v.name w.name) (int_eq v.weight w.weight &&
    (int_eq v.removed w.removed)) p3.1 in
    let name_is = (bytes_eq-Decides v.name w.name).0 p4.0 in
    let p5 = and_parts (int_eq v.weight w.weight) (int_eq v.removed w.removed) p4.1 in
    let weight_is = one_number v.weight w.weight p5.0 in
    let removed_is = one_number v.removed w.removed p5.1 in
    λ i. record {
      region = region_is i;
      zone = zone_is i;
      address = address_is i;
      port = port_is i;
      name = name_is i;
      weight = weight_is i;
      removed = removed_is i;
    }

pub part_one : (v w : rows.Part) → is_same_part v w ≡ true → v ≡ w
part_one v w t =
    let p0 = and_parts (pointwise nat_eq v.devices w.devices) (int_eq v.hour w.hour) t in
    let devices_is = (bytes_eq-Decides v.devices w.devices).0 p0.0 in
    let hour_is = one_number v.hour w.hour p0.1 in
    λ i. record { devices = devices_is i; hour = hour_is i }

text_one : (v w : List ℕ) → is_same_text v w ≡ true → v ≡ w
text_one v w t = (bytes_eq-Decides v w).0 t

-- ---- no key goes

pub valid_at : (name : List ℕ) (rings : NamedRings) → AreRings rings →
    IfSome (ring_at name rings) IsValid
valid_at name rings held = go (std.find (λ (x : List ℕ × RingRecord). pointwise nat_eq x.0 name)
    rings) (holds_of_found IsNamedRing _ rings (recursion_from_All IsNamedRing rings held.each))
  where
    go : (o : Option (List ℕ × RingRecord)) → IfSome o IsNamedRing →
        IfSome (option_map (λ (e : List ℕ × RingRecord). e.1) o) IsValid
    go None h = tt
    go (Some e) h = h.valid

pub all_mapped : {X Y : Type 0} (P : Y → Type 0) (f : X → Y) (xs : List X) → All (λ x. P (f x)) xs →
    All P (map f xs)
all_mapped P f xs all = All-from_recursion P (map f xs) (go xs (recursion_from_All _ xs all))
  where
    go : (ys : List _) → AllByRecursion (λ x. P (f x)) ys → AllByRecursion P (map f ys)
    go [] h = tt
    go (y ∷ ys) h = (h.0, go ys h.1)

-- rows have no negative numbers
abbrev Counted : {V : Type 0} → List (NameNumber × V) → Type 0
Counted {V} es = AllByRecursion (λ (e : NameNumber × V). (n : ℕ) × (e.0.1 ≡ pos n)) es

no_negative : {V : Type 0} (name : List ℕ) (k : ℕ) (es : List (NameNumber × V)) → Counted es →
    find name_number_cmp (name, negsuc k) es ≡ None
no_negative name k [] all = refl
no_negative name k (e ∷ es) all = elim (cases_Bool (eq_by_cmp name_number_cmp (name, negsuc k) e.0)) [
  | inl here ↦
      let same : negsuc k ≡ pos all.0.0 = ap (λ (x : NameNumber). x.1) (name_number_exact (
        name,
        negsuc k,
      ) e.0 (tied _ here)) ∙ all.0.1 in
      absurd (cc)
  | inr other ↦ ap (λ t. cond t (Some e.1) (find name_number_cmp (name, negsuc k) es)) other ∙
      no_negative name k es all.1
]

counted_parts : (name : List ℕ) (ring : RingRecord) (n : ℕ) (hs : List (Option ℕ)) →
    Counted (map (part_entry name ring.replicas ring.seats) (enumerate_from n hs))
counted_parts name ring n [] = tt
counted_parts name ring n (h ∷ hs) = ((n, refl), counted_parts name ring (n + 1) hs)

counted_texts : (name : List ℕ) (ts : List (ℕ × List ℕ)) → Counted (map (published_entry name) ts)
counted_texts name [] = tt
counted_texts name (t ∷ ts) = ((t.0, refl), counted_texts name ts)

counted_parts_at : (name : List ℕ) (o : Option RingRecord) →
    Counted (rows_at part_entries_of name o)
counted_parts_at name None = tt
counted_parts_at name (Some ring) = counted_parts name ring 0 ring.moved

counted_texts_at : (name : List ℕ) (o : Option RingRecord) →
    Counted (rows_at text_entries_of name o)
counted_texts_at name None = tt
counted_texts_at name (Some ring) = counted_texts name ring.published

-- where a ring has no partition of a number, one of a lower power has none
no_part_before : (old new : RingRecord) → IsValid old → IsValid new → old.power ≤ new.power →
    (n : ℕ) → part_in (Some new) n ≡ None → part_in (Some old) n ≡ None
no_part_before old new p q less n none =
    let above : length new.moved ≤ n = le_of_not (λ (within : n < length new.moved).
    let found : slice_get new.moved n ≡ Some (std.get_or new.moved n None) =
    slice_get-get_or new.moved n None within in
    let h : Some (part_value new n (std.get_or new.moved n None)) ≡ None =
    sym (ap (option_map (part_value new n)) found) ∙ none in cc) in
    let more : 2 ^ old.power ≤ 2 ^ new.power = pow-le-pow_right (let h : 0 < 2 = omega arith in
    h) less in
    let low : length old.moved ≤ n = le_trans (subst (λ m. m ≤ 2 ^ new.power) (sym p.moved) more)
    (subst (λ m. m ≤ n) q.moved above) in
    ap (option_map (part_value old n)) (slice_get_past old.moved n low)
  where
    le_of_not : {a b : ℕ} → (b < a → ⊥) → a ≤ b
    le_of_not {a} {b} f = omega (arith, f)

    le_trans : {a b d : ℕ} → a ≤ b → b ≤ d → a ≤ d
    le_trans h l = omega arith

-- a ring is there with all partitions and published texts
abbrev pub Later : Option RingRecord → RingRecord → Type 0
Later new ring = IsSomeAnd new (λ later. (ring.power ≤ later.power) × KeepsTexts ring later)

none_in_rings : (old new : Option RingRecord) → ((ring : RingRecord) → old ≡ Some ring →
    Later new ring) → option_map ring_value new ≡ None → option_map ring_value old ≡ None
none_in_rings None new more gone = refl
none_in_rings (Some ring) None more gone = absurd (more ring refl)
none_in_rings (Some ring) (Some later) more gone = let h : Some (ring_value later) ≡ None = gone in
    cc

none_in_parts : (old new : Option RingRecord) → IfSome old IsValid → IfSome new IsValid →
    ((ring : RingRecord) → old ≡ Some ring → Later new ring) → (n : ℕ) → part_in new n ≡ None →
    part_in old n ≡ None
none_in_parts None new p q more n gone = refl
none_in_parts (Some ring) None p q more n gone = absurd (more ring refl)
none_in_parts (Some ring) (Some later) p q more n gone =
    no_part_before ring later p q (more ring refl).0 n gone

none_in_texts : (old new : Option RingRecord) → ((ring : RingRecord) → old ≡ Some ring →
    Later new ring) → (n : ℕ) → text_in new n ≡ None → text_in old n ≡ None
none_in_texts None new more n gone = refl
none_in_texts (Some ring) None more n gone = absurd (more ring refl)
none_in_texts (Some ring) (Some later) more n gone = by (published_at ring n) refl
  where
    by : (o : Option (List ℕ)) → published_at ring n ≡ o → published_at ring n ≡ None
    by None at = at
    by (Some text) at = let kept : None ≡ Some text = sym gone ∙ (more ring refl).1 n text at in cc

module _ (old new : NamedRings) (p : AreRings old) (q : AreRings new) (grows : Grows old new) where
  rings_kept : (name : List ℕ) → find name_cmp name (ring_entries new) ≡ None →
      find name_cmp name (ring_entries old) ≡ None
  rings_kept name none = find_ring name old ∙ none_in_rings (ring_at name old) (ring_at name new)
      (grows name) (sym (find_ring name new) ∙ none)

  parts_kept : (k : NameNumber) → find name_number_cmp k (part_entries new) ≡ None →
      find name_number_cmp k (part_entries old) ≡ None
  parts_kept (name, pos n) none =
      find_in part_entries_of parts_named (name, pos n) old (up old p) ∙ find_part name
      (ring_at name old) n
      ∙ none_in_parts (ring_at name old) (ring_at name new) (valid_at name old p)
      (valid_at name new q) (grows name) n
      (sym (find_in part_entries_of parts_named (name, pos n) new (up new q) ∙ find_part name
      (ring_at name new) n) ∙ none)
  parts_kept (name, negsuc k) none = find_in part_entries_of parts_named (name, negsuc k) old
      (up old p) ∙ no_negative name k _ (counted_parts_at name (ring_at name old))

  texts_kept : (k : NameNumber) → find name_number_cmp k (published_entries new) ≡ None →
      find name_number_cmp k (published_entries old) ≡ None
  texts_kept (name, pos n) none =
      find_in text_entries_of texts_named (name, pos n) old (up old p) ∙ find_text name
      (ring_at name old) n
      ∙ none_in_texts (ring_at name old) (ring_at name new) (grows name) n
      (sym (find_in text_entries_of texts_named (name, pos n) new (up new q) ∙ find_text name
      (ring_at name new) n) ∙ none)
  texts_kept (name, negsuc k) none = find_in text_entries_of texts_named (name, negsuc k) old
      (up old p) ∙ no_negative name k _ (counted_texts_at name (ring_at name old))

  module _ (keys : List DeviceKey) (rings : List RingRow) (devices : List DeviceRow)
      (known : ℤ) (parts : List PartRow) (texts : List PublishedRow)
      (keys_are : map device_key keys ≡ map (λ (e : NameNumber × rows.Device). e.0)
      (lacking name_number_cmp is_same_device (device_entries new) (device_entries old)))
      (new_rings : map ring_of rings ≡ lacking name_cmp is_same_ring (ring_entries old)
      (ring_entries new))
      (new_devices : map device_of devices ≡ lacking name_number_cmp is_same_device
      (device_entries old) (device_entries new))
      (new_parts : map part_of parts ≡ lacking name_number_cmp is_same_part (part_entries old)
      (part_entries new))
      (new_texts : map published_of texts ≡ lacking name_number_cmp is_same_text
      (published_entries old) (published_entries new)) where
    abbrev all : List RowChange
    all = (((map DropDevice keys ++ map PutRing rings) ++ map AddDevice devices) ++
        map (part_change known) parts) ++ map PutPublished texts

    changed_by_kind : (c : Contents) → changed_all c all ≡ record c {
      devices = put_all (remove_all c.devices (map device_key keys)) (map device_of devices);
      rings = put_all c.rings (map ring_of rings);
      parts = put_all c.parts (map part_of parts);
      published = put_all c.published (map published_of texts);
    }
    changed_by_kind c =
        let four = ((map DropDevice keys ++ map PutRing rings) ++ map AddDevice devices) ++
        map (part_change known) parts in
        let three = (map DropDevice keys ++ map PutRing rings) ++ map AddDevice devices in
        let two = map DropDevice keys ++ map PutRing rings in
        changed-append four (map PutPublished texts) c
        ∙ ap (λ d. changed_all d (map PutPublished texts)) (changed-append three (map (part_change known) parts)
        c
        ∙ ap (λ d. changed_all d (map (part_change known) parts)) (changed-append two (map AddDevice devices) c
        ∙ ap (λ d. changed_all d (map AddDevice devices)) (changed-append (map DropDevice keys)
        (map PutRing rings) c
        ∙ ap (λ d. changed_all d (map PutRing rings)) (drops_are c keys) ∙ rings_are _ rings)
        ∙ devices_are _ devices)
        ∙ parts_are known _ parts)
        ∙ texts_are _ texts

    rings_made : put_all (from_entries {R = name_cmp} (ring_entries old)) (map ring_of rings) ≡
        from_entries (ring_entries new)
    rings_made = ap (put_all (from_entries {R = name_cmp} (ring_entries old))) new_rings
        ∙ differences_make name_total name_exact is_same_ring ring_one ring_itself
        (ring_entries old) (ring_entries new) (rings_sorted new (up new q)) rings_kept

    parts_made : put_all (from_entries {R = name_number_cmp} (part_entries old)) (map part_of parts)
        ≡ from_entries (part_entries new)
    parts_made = ap (put_all (from_entries {R = name_number_cmp} (part_entries old))) new_parts
        ∙ differences_make name_number_total name_number_exact is_same_part part_one part_itself
        (part_entries old) (part_entries new) (parts_sorted new q) parts_kept

    texts_made : put_all (from_entries {R = name_number_cmp} (published_entries old))
        (map published_of texts) ≡ from_entries (published_entries new)
    texts_made = ap (put_all (from_entries {R = name_number_cmp} (published_entries old))) new_texts
        ∙ differences_make name_number_total name_number_exact is_same_text text_one same_bytes
        (published_entries old) (published_entries new) (texts_sorted new q) texts_kept

    devices_made : put_all (remove_all (from_entries {R = name_number_cmp} (device_entries old))
        (map device_key keys)) (map device_of devices) ≡ from_entries (device_entries new)
    devices_made =
        ap (λ ks. put_all (remove_all (from_entries {R = name_number_cmp} (device_entries old)) ks)
        (map device_of devices)) keys_are
        ∙ ap (put_all (remove_all (from_entries {R = name_number_cmp} (device_entries old))
        (map (λ (e : NameNumber × rows.Device). e.0) (lacking name_number_cmp is_same_device
        (device_entries new) (device_entries old))))) new_devices
        ∙ exchanges_make name_number_total name_number_exact is_same_device device_one device_itself
        (device_entries old) (device_entries new) (devices_sorted old p) (devices_sorted new q)

    pub applied : (content : RingContent) → content.state ≡ old → changed_all (contents_for content)
        all ≡ contents_for (with_state content new)
    applied content state =
        ap (λ s. changed_all (contents_for (with_state content s)) all) state
        ∙ changed_by_kind (contents_for (with_state content old))
        ∙ (λ i. record (contents_for (with_state content old)) {
          rings = rings_made i;
          devices =
              devices_made i;
          parts = parts_made i;
          published = texts_made i;
        })

    -- ---- what is written

    picks_none : {E Z : Type 0} (f : RowChange → List E) (g : Z → RowChange) →
        ((z : Z) → f (g z) ≡ []) → (zs : List Z) → flat_map f (map g zs) ≡ []
    picks_none f g none [] = refl
    picks_none f g none (z ∷ zs) = ap (λ es. es ++ flat_map f (map g zs)) (none z) ∙ picks_none f g
        none zs

    picks_one : {E Z : Type 0} (f : RowChange → List E) (g : Z → RowChange) (h : Z → E) →
        ((z : Z) → f (g z) ≡ h z ∷ []) → (zs : List Z) → flat_map f (map g zs) ≡ map h zs
    picks_one f g h one [] = refl
    picks_one f g h one (z ∷ zs) = ap (λ es. es ++ flat_map f (map g zs)) (one z) ∙ ap (λ es. h z ∷
        es) (picks_one f g h one zs)

    joined : {E : Type 0} (f : RowChange → List E) (k r d e t : List E) →
        flat_map f (map DropDevice keys) ≡ k → flat_map f (map PutRing rings) ≡ r →
        flat_map f (map AddDevice devices) ≡ d
        → flat_map f (map (part_change known) parts) ≡ e → flat_map f (map PutPublished texts) ≡ t →
        flat_map f all ≡ (((k ++ r) ++ d) ++ e) ++ t
    joined f k r d e t is_k is_r is_d is_e is_t =
        flat_map-append f (((map DropDevice keys ++ map PutRing rings) ++ map AddDevice devices) ++
        map (part_change known) parts) (map PutPublished texts)
        ∙ ap (λ xs. xs ++ flat_map f (map PutPublished texts))
        (flat_map-append f ((map DropDevice keys ++ map PutRing rings) ++ map AddDevice devices)
        (map (part_change known) parts)
        ∙ ap (λ xs. xs ++ flat_map f (map (part_change known) parts)) (flat_map-append f (map DropDevice keys ++
        map PutRing rings) (map AddDevice devices)
        ∙ ap (λ xs. xs ++ flat_map f (map AddDevice devices))
        (flat_map-append f (map DropDevice keys) (map PutRing rings))))
        ∙ (λ i. (((is_k i ++ is_r i) ++ is_d i) ++ is_e i) ++ is_t i)

    -- a change of a partition is one of two
    part_none : {E : Type 0} (f : RowChange → List E) (z : PartRow) → ((r : PartRow) →
        f (PutPart r) ≡ []) → ((r : PartRow) → f (AddPart r) ≡ []) → f (part_change known z) ≡ []
    part_none f z put add = by (int_lt z.part known)
      where
        by : (old : Bool) → f (cond old (PutPart z) (AddPart z)) ≡ []
        by true = put z
        by false = add z

    part_one_of : (z : PartRow) → part_written (part_change known z) ≡ part_of z ∷ []
    part_one_of z = by (int_lt z.part known)
      where
        by : (old : Bool) → part_written (cond old (PutPart z) (AddPart z)) ≡ part_of z ∷ []
        by true = refl
        by false = refl

    -- those from the first unknown partition on are added
    adds : (rs : List PartRow) → flat_map part_added (map (part_change known) rs) ≡ parts_from known
        (map part_of rs)
    adds [] = refl
    adds (r ∷ rs) = by (int_lt r.part known) (adds rs)
      where
        by : (old : Bool) → flat_map part_added (map (part_change known) rs) ≡ parts_from known
            (map part_of rs) → part_added (cond old (PutPart r) (AddPart r)) ++
            flat_map part_added (map (part_change known) rs) ≡ cond (not old)
            (part_of r ∷ parts_from known (map part_of rs)) (parts_from known (map part_of rs))
        by true later = later
        by false later = ap (λ es. part_of r ∷ es) later

    rings_in : flat_map ring_written all ≡ map ring_of rings
    rings_in = joined ring_written [] (map ring_of rings) [] [] [] (picks_none ring_written
        DropDevice (λ z. refl) keys) (picks_one ring_written PutRing ring_of (λ z. refl) rings)
        (picks_none ring_written AddDevice (λ z. refl) devices)
        (picks_none ring_written (part_change known) (λ z. part_none ring_written z
        (λ r. refl) (λ r. refl)) parts)
        (picks_none ring_written PutPublished (λ z. refl) texts) ∙ simp
        append-nil

    devices_in : flat_map device_written all ≡ map device_of devices
    devices_in = joined device_written [] [] (map device_of devices) [] []
        (picks_none device_written DropDevice (λ z. refl) keys) (picks_none device_written PutRing
        (λ z. refl) rings)
        (picks_one device_written AddDevice device_of (λ z. refl) devices)
        (picks_none device_written (part_change known) (λ z. part_none device_written z
        (λ r. refl) (λ r. refl)) parts)
        (picks_none device_written PutPublished (λ z. refl) texts) ∙ simp append-nil

    dropped_in : flat_map device_dropped all ≡ map device_key keys
    dropped_in = joined device_dropped (map device_key keys) [] [] [] [] (picks_one device_dropped
        DropDevice device_key (λ z. refl) keys) (picks_none device_dropped PutRing (λ z. refl)
        rings)
        (picks_none device_dropped AddDevice (λ z. refl) devices)
        (picks_none device_dropped (part_change known) (λ z. part_none device_dropped z
        (λ r. refl) (λ r. refl)) parts)
        (picks_none device_dropped PutPublished (λ z. refl) texts) ∙ simp
        append-nil

    parts_in : flat_map part_written all ≡ map part_of parts
    parts_in = joined part_written [] [] [] (map part_of parts) [] (picks_none part_written
        DropDevice (λ z. refl) keys) (picks_none part_written PutRing (λ z. refl) rings)
        (picks_none part_written AddDevice (λ z. refl) devices) (picks_one part_written
        (part_change known) part_of part_one_of parts) (picks_none part_written PutPublished (λ z. refl) texts) ∙
        simp append-nil

    added_in : flat_map part_added all ≡ parts_from known (map part_of parts)
    added_in = joined part_added [] [] [] (parts_from known (map part_of parts)) []
        (picks_none part_added DropDevice (λ z. refl) keys) (picks_none part_added PutRing
        (λ z. refl) rings) (picks_none part_added AddDevice (λ z. refl) devices) (adds parts)
        (picks_none part_added PutPublished (λ z. refl) texts) ∙ simp append-nil

    texts_in : flat_map text_written all ≡ map published_of texts
    texts_in = joined text_written [] [] [] [] (map published_of texts) (picks_none text_written
        DropDevice (λ z. refl) keys) (picks_none text_written PutRing (λ z. refl) rings)
        (picks_none text_written AddDevice (λ z. refl) devices)
        (picks_none text_written (part_change known) (λ z. part_none text_written z
        (λ r. refl) (λ r. refl)) parts)
        (picks_one text_written PutPublished published_of (λ z. refl) texts)

    pub written : parts_from known (map part_of parts) ≡ gone name_number_cmp (part_entries new)
        (part_entries old) → (content : RingContent) → content.state ≡ old →
        WritesDifferences (contents_for content) (contents_for (with_state content new)) all
    written added content state = subst (λ s. WritesDifferences (contents_for (with_state content s))
        (contents_for (with_state content new)) all) (sym state) (record {
          rings = rings_in ∙ new_rings ∙ sym (new_are name_total name_exact is_same_ring ring_one
              ring_itself (ring_entries old) (ring_entries new) (rings_sorted new (up new q)));
          devices = devices_in ∙ new_devices ∙ sym (new_are name_number_total name_number_exact
              is_same_device device_one device_itself (device_entries old) (device_entries new)
              (devices_sorted new q));
          dropped = dropped_in ∙ keys_are ∙ ap (map (λ (e : NameNumber × rows.Device). e.0))
              (sym (new_are name_number_total name_number_exact is_same_device device_one device_itself
              (device_entries new) (device_entries old) (devices_sorted old p)));
          parts = parts_in ∙ new_parts ∙ sym (new_are name_number_total name_number_exact is_same_part
              part_one part_itself (part_entries old) (part_entries new) (parts_sorted new q));
          added = added_in ∙ added ∙ sym (gone_are name_number_total name_number_exact
              (part_entries new) (part_entries old) (parts_sorted new q));
          published = texts_in ∙ new_texts ∙ sym (new_are name_number_total name_number_exact
              is_same_text text_one same_bytes (published_entries old) (published_entries new)
              (texts_sorted new q));
        })

    -- ---- how many rows differ

    pub counted : (content : RingContent) → content.state ≡ old → (g : ℕ) →
        g ≡ length (gone name_number_cmp (device_entries old) (device_entries new))
        → length rings + length devices + length parts + length texts + g ≡ differing_rows
        (contents_for content) (contents_for (with_state content new))
    counted content state g is = subst (λ s. length rings + length devices + length parts + length
        texts + g ≡ differing_rows (contents_for (with_state content s))
        (contents_for (with_state content new))) (sym state) total
      where
        r : length (new_entries is_same_ring (from_entries {R = name_cmp} (ring_entries old))
            (from_entries (ring_entries new))) ≡ length rings
        r = ap length (new_are name_total name_exact is_same_ring ring_one ring_itself
            (ring_entries old) (ring_entries new) (rings_sorted new (up new q)) ∙ sym new_rings) ∙
            length-map rings ring_of

        r_gone : length (gone_entries (from_entries {R = name_cmp} (ring_entries old))
            (from_entries (ring_entries new))) ≡ 0
        r_gone = ap length (gone_are name_total name_exact (ring_entries old) (ring_entries new)
            (rings_sorted old (up old p)) ∙ none_gone name_total name_exact (ring_entries old)
            (ring_entries new) rings_kept)

        d : length (new_entries is_same_device (from_entries {R = name_number_cmp}
            (device_entries old)) (from_entries (device_entries new))) ≡ length devices
        d = ap length (new_are name_number_total name_number_exact is_same_device device_one
            device_itself (device_entries old) (device_entries new) (devices_sorted new q) ∙ sym
            new_devices) ∙ length-map devices device_of

        d_gone : length (gone_entries (from_entries {R = name_number_cmp} (device_entries old))
            (from_entries (device_entries new))) ≡ g
        d_gone = ap length (gone_are name_number_total name_number_exact (device_entries old)
            (device_entries new) (devices_sorted old p)) ∙ sym is

        e : length (new_entries is_same_part (from_entries {R = name_number_cmp} (part_entries old))
            (from_entries (part_entries new))) ≡ length parts
        e = ap length (new_are name_number_total name_number_exact is_same_part part_one part_itself
            (part_entries old) (part_entries new) (parts_sorted new q) ∙ sym new_parts) ∙ length-map
            parts part_of

        e_gone : length (gone_entries (from_entries {R = name_number_cmp} (part_entries old))
            (from_entries (part_entries new))) ≡ 0
        e_gone = ap length (gone_are name_number_total name_number_exact (part_entries old)
            (part_entries new) (parts_sorted old p) ∙ none_gone name_number_total name_number_exact
            (part_entries old) (part_entries new) parts_kept)

        t : length (new_entries is_same_text (from_entries {R = name_number_cmp}
            (published_entries old)) (from_entries (published_entries new))) ≡ length texts
        t = ap length (new_are name_number_total name_number_exact is_same_text text_one same_bytes
            (published_entries old) (published_entries new) (texts_sorted new q) ∙ sym new_texts) ∙
            length-map texts published_of

        t_gone : length (gone_entries (from_entries {R = name_number_cmp} (published_entries old))
            (from_entries (published_entries new))) ≡ 0
        t_gone = ap length (gone_are name_number_total name_number_exact (published_entries old)
            (published_entries new) (texts_sorted old p) ∙ none_gone name_number_total
            name_number_exact (published_entries old) (published_entries new) texts_kept)

        total : length rings + length devices + length parts + length texts + g ≡ differing_rows
            (contents_for (with_state content old)) (contents_for (with_state content new))
        total = omega (arith, r, r_gone, d, d_gone, e, e_gone, t, t_gone)

pub mapped_keys : (rs : List DeviceRow) → map (λ (r : DeviceRow). (device_of r).0) rs ≡ map
    (λ (e : NameNumber × rows.Device). e.0) (map device_of rs)
mapped_keys [] = refl
mapped_keys (r ∷ rs) = ap (λ ks. (device_of r).0 ∷ ks) (mapped_keys rs)
