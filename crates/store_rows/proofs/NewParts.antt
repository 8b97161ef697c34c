-- Which partitions are new.
use Rattle.std.proofs.Common.{◌≡◌, inl, inr, ℕ, ◌+◌, ◌<◌, ◌≤◌, pos, int_lt, ltb, Bool, true, false, not}
use Rattle.std.proofs.Common.{cond, List, [], ◌∷◌, ◌++◌, map, filter, length, Option, Some, None}
use Rattle.std.proofs.Common.{IfSome, Ordering, is_none, refl, sym, ap, subst, ◌∙◌, arith}
use Rattle.std.specs.List.{AllByRecursion, enumerate_from}
use Rattle.std.specs.Option.{option_map}
use Rattle.std.specs.FinMap.{find}
use Rattle.std.proofs.lemmas.Bool.{cases_Bool, ltb-false, ltb-true}
use Rattle.std.proofs.lemmas.Option.{slice_get-get_or, slice_get_past}
use Rattle.ring_model.specs.Ring.{RingRecord, partition_count}
use Rattle.ring_model.specs.Rings.{ring_at}
use Rattle.ring_model.specs.Valid.{IsValid}
use Rattle.store_model.specs.Entries as rows
use Rattle.store_model.specs.Entries.{NameNumber, name_number_cmp}
use Rattle.store_rows.specs.Differences.{has_same, is_same_part}
use Rattle.store_rows.specs.Inner.Lacking.{gone, lacking, part_in, part_value, rows_at}
use Rattle.store_rows.specs.Inner.Written.{known_partitions, parts_from}
use Rattle.store_rows.specs.RingRows.{NamedRings, part_entries, part_entries_of, part_entry}
use Rattle.store_rows.specs.Stands.{AreRings}
use Rattle.store_rows.proofs.Blocks.{filter_same, find_in}
use Rattle.store_rows.proofs.Changing.{valid_at}
use Rattle.store_rows.proofs.Ordered.{parts_named, up}
use Rattle.store_rows.proofs.Steps.{find_part}

all_filtered : {X : Type 0} (P : X → Type 0) (f : X → Bool) (xs : List X) → AllByRecursion P xs →
    AllByRecursion P (filter f xs)
all_filtered P f [] all = tt
all_filtered P f (x ∷ xs) all = by (f x) (all_filtered P f xs all.1)
  where
    by : (b : Bool) → AllByRecursion P (filter f xs) →
        AllByRecursion P (cond b (x ∷ filter f xs) (filter f xs))
    by true later = (all.0, later)
    by false later = later

all_joined : {X : Type 0} (P : X → Type 0) (xs ys : List X) → AllByRecursion P xs →
    AllByRecursion P ys → AllByRecursion P (xs ++ ys)
all_joined P [] ys front behind = behind
all_joined P (x ∷ xs) ys front behind = (front.0, all_joined P xs ys front.1 behind)

-- of the entries that the old ones lack, those whose keys they lack
module _ {K V : Type 0} (R : K → K → Ordering) (same : V → V → Bool) (old : List (K × V)) where
  abbrev keyless : K × V → Bool
  keyless e = is_none (find R e.0 old)

  lacked_more : (e : K × V) (rest whole : List (K × V)) (o : Option V) → find R e.0 old ≡ o →
      filter keyless rest ≡ whole → filter keyless (cond (not (has_same same o e.1)) (e ∷ rest) rest)
      ≡ cond (is_none o) (e ∷ whole) whole
  lacked_more e rest whole None at later = ap (λ o. cond (is_none o) (e ∷ filter keyless rest)
      (filter keyless rest)) at ∙ ap (λ xs. e ∷ xs) later
  lacked_more e rest whole (Some w) at later = either (same w e.1)
    where
      either : (b : Bool) → filter keyless (cond (not b) (e ∷ rest) rest) ≡ whole
      either true = later
      either false = ap (λ o. cond (is_none o) (e ∷ filter keyless rest) (filter keyless rest)) at ∙
          later

  pub keys_lacked : (new : List (K × V)) → filter keyless (lacking R same old new) ≡ gone R new old
  keys_lacked [] = refl
  keys_lacked (e ∷ es) = lacked_more e (lacking R same old es) (gone R es old) (find R e.0 old) refl
      (keys_lacked es)

-- a ring has the partitions below its count, and no other
known_is : (was : Option RingRecord) → IfSome was IsValid → (n : ℕ) →
    not (int_lt (pos n) (pos (known_partitions was))) ≡ is_none (part_in was n)
known_is None valid n = elim (cases_Bool (ltb n 0)) [
  | inl t ↦ absurd (let below : n < 0 = ltb-true n 0 t in omega arith)
  | inr f ↦ ap not f
]
known_is (Some ring) valid n = elim (cases_Bool (ltb n (partition_count ring))) [
  | inl t ↦
      let within : n < length ring.moved = subst (λ m. n < m) (sym valid.moved)
      (ltb-true n (partition_count ring) t) in
      ap not t ∙ sym (ap (λ o. is_none (option_map (part_value ring n) o)) (slice_get-get_or
      ring.moved n None within))
  | inr f ↦
      let past : length ring.moved ≤ n = subst (λ m. m ≤ n) (sym valid.moved)
      (ltb-false n (partition_count ring) f) in
      ap not f ∙ sym (ap (λ o. is_none (option_map (part_value ring n) o)) (slice_get_past ring.moved
      n past))
]

module _ (name : List ℕ) (old : NamedRings) (p : AreRings old) where
  abbrev was : Option RingRecord
  was = ring_at name old

  abbrev IsNewAlike : NameNumber × rows.Part → Type 0
  IsNewAlike e = not (int_lt e.0.1 (pos (known_partitions was))) ≡ is_none (find name_number_cmp e.0
      (part_entries old))

  new_at : (n : ℕ) → not (int_lt (pos n) (pos (known_partitions was))) ≡ is_none
      (find name_number_cmp (name, pos n) (part_entries old))
  new_at n = known_is was (valid_at name old p) n ∙ sym (ap is_none (find_in part_entries_of
      parts_named (name, pos n) old (up old p) ∙ find_part name was n))

  new_each : (ring : RingRecord) (n : ℕ) (hs : List (Option ℕ)) → AllByRecursion IsNewAlike
      (map (part_entry name ring.replicas ring.seats) (enumerate_from n hs))
  new_each ring n [] = tt
  new_each ring n (h ∷ hs) = (new_at n, new_each ring (n + 1) hs)

  -- the rows of a ring's new partitions are those whose keys the old rows lack
  pub new_of_one : (new : NamedRings) (ring : RingRecord) → lacking name_number_cmp is_same_part
      (rows_at part_entries_of name was) (part_entries_of (name, ring)) ≡ lacking name_number_cmp
      is_same_part (part_entries old) (part_entries new) → parts_from (pos (known_partitions was))
      (lacking name_number_cmp is_same_part (rows_at part_entries_of name was)
      (part_entries_of (name, ring))) ≡ gone name_number_cmp (part_entries new) (part_entries old)
  new_of_one new ring are =
      filter_same part_entries_of parts_named _ _ _ (all_filtered IsNewAlike _
      (part_entries_of (name, ring)) (new_each ring 0 ring.moved))
      ∙ ap (filter (λ (e : NameNumber × rows.Part). is_none (find name_number_cmp e.0
      (part_entries old)))) are ∙ keys_lacked name_number_cmp is_same_part (part_entries old)
      (part_entries new)

-- where there was no ring, all partitions are new
abbrev IsNewAtAll : NameNumber × rows.Part → Type 0
IsNewAtAll e = not (int_lt e.0.1 (pos 0)) ≡ is_none {T = rows.Part} (find name_number_cmp e.0 [])

each_new : (name : List ℕ) (ring : RingRecord) (n : ℕ) (hs : List (Option ℕ)) →
    AllByRecursion IsNewAtAll (map (part_entry name ring.replicas ring.seats) (enumerate_from n hs))
each_new name ring n [] = tt
each_new name ring n (h ∷ hs) = (known_is None tt n, each_new name ring (n + 1) hs)

all_new : (rings : NamedRings) → AllByRecursion IsNewAtAll (part_entries rings)
all_new [] = tt
all_new (e ∷ es) = all_joined IsNewAtAll (part_entries_of e) (part_entries es) (each_new e.0 e.1 0
    e.1.moved) (all_new es)

pub new_of_all : (rings : NamedRings) → parts_from (pos 0) (part_entries rings) ≡ gone
    name_number_cmp (part_entries rings) []
new_of_all rings = filter_same part_entries_of parts_named _ _ (part_entries rings) (all_new rings)
