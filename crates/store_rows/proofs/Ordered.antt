-- The rows of rings stand in the order of their keys.
use Rattle.std.proofs.Common.{◌≡◌, ℕ, ◌+◌, ◌<◌, ℤ, pos, ◌<ℤ◌, true, List, [], ◌∷◌, ◌++◌, map}
use Rattle.std.proofs.Common.{Option, Ordering, Less, Equal, Greater, All, refl, sym, ap, ◌∙◌}
use Rattle.std.proofs.Common.{arith}
use Rattle.std.specs.Ordering.{is_lt, int_cmp, ordering_then}
use Rattle.std.specs.Cmp.{int_cmp_is}
use Rattle.std.proofs.lemmas.Int.{ints}
use Rattle.std.proofs.lemmas.List.Kept.{AllPairs-from_increasing}
use Rattle.std.specs.List.{AllByRecursion, AllPairs, flat_map, enumerate_from}
use Rattle.std.specs.List.Sorted.{IsStrictlyIncreasing}
use Rattle.std.specs.FinMap.{is_sorted}
use Rattle.std.specs.FinMap.Entries.{below_all}
use Rattle.std.proofs.lemmas.Bool.{and_from, and_parts}
use Rattle.std.proofs.lemmas.Cmp.{tied_itself}
use Rattle.std.proofs.lemmas.List.Elements.{recursion_from_All}
use Rattle.ring_model.specs.Ring.{RingRecord}
use Rattle.ring_model.specs.Rings.{AreByName, is_before}
use Rattle.store_model.specs.Entries.{name_cmp, NameNumber, name_number_cmp}
use Rattle.store_model.proofs.Keys.{name_total}
use Rattle.store_rows.specs.RingRows.{NamedRings, ring_entries, device_entry, device_entries}
use Rattle.store_rows.specs.RingRows.{published_entry, published_entries, part_entry}
use Rattle.store_rows.specs.RingRows.{part_entries_of, part_entries}
use Rattle.ring_words.specs.declared.device.Device.{Device}
use Rattle.store_rows.specs.Stands.{AreRings, IsNamedRing}
use Rattle.store_rows.proofs.BookGains.{pairs-head, pairs-tail}

less_of : (o : Ordering) → is_lt o ≡ true → o ≡ Less
less_of Less h = refl
less_of Equal h = cc
less_of Greater h = cc

-- each name comes before all that stand behind it, by recursion
abbrev pub Rising : NamedRings → Type 0
Rising [] = Unit {0}
Rising (e ∷ es) = AllByRecursion (λ (x : List ℕ × RingRecord). name_cmp e.0 x.0 ≡ Less) es ×
    Rising es

pub weaker : {X : Type 0} (P Q : X → Type 0) → ((x : X) → P x → Q x) → (xs : List X) →
    AllByRecursion P xs → AllByRecursion Q xs
weaker P Q f [] all = tt
weaker P Q f (x ∷ xs) all = (f x all.0, weaker P Q f xs all.1)

pub rising : (rings : NamedRings) → AreByName rings → Rising rings
rising [] by = tt
rising (e ∷ es) by = (
  weaker _ _ (λ x h. less_of _ h) es (recursion_from_All (λ (x : List ℕ × RingRecord). is_before e.0
      x.0 ≡ true) es (pairs-head (λ (a b : List ℕ × RingRecord). is_before a.0 b.0 ≡ true) e es
      by)),
  rising es (pairs-tail (λ (a b : List ℕ × RingRecord). is_before a.0 b.0 ≡ true) e es by),
)

module _ {K V : Type 0} (R : K → K → Ordering) where
  pub below_from : (k : K) (es : List (K × V)) → AllByRecursion (λ (e : K × V). R k e.0 ≡ Less) es →
      below_all R k es ≡ true
  below_from k [] all = refl
  below_from k (e ∷ es) all = and_from _ _ (ap is_lt all.0) (below_from k es all.1)

  below-append : (k : K) (es fs : List (K × V)) → below_all R k es ≡ true →
      below_all R k fs ≡ true → below_all R k (es ++ fs) ≡ true
  below-append k [] fs h l = l
  below-append k (e ∷ es) fs h l = let parts = and_parts _ _ h in
      and_from _ _ parts.0 (below-append k es fs parts.1 l)

  -- sorted parts, of which the first is below the second
  pub sorted-append : (es fs : List (K × V)) → is_sorted R es ≡ true → is_sorted R fs ≡ true →
      AllByRecursion (λ (e : K × V). below_all R e.0 fs ≡ true) es → is_sorted R (es ++ fs) ≡ true
  sorted-append [] fs h l all = l
  sorted-append (e ∷ es) fs h l all = let parts = and_parts _ _ h in
      and_from _ _ (below-append e.0 es fs parts.0 all.0) (sorted-append es fs parts.1 l all.1)

abbrev pub NamedAs : {V : Type 0} → List ℕ → List (NameNumber × V) → Type 0
NamedAs {V} name es = AllByRecursion (λ (e : NameNumber × V). e.0.0 ≡ name) es

abbrev pub NamedLater : {V : Type 0} → List ℕ → List (NameNumber × V) → Type 0
NamedLater {V} name es = AllByRecursion (λ (e : NameNumber × V). name_cmp name e.0.0 ≡ Less) es

later_key : (k : NameNumber) (name : List ℕ) (i : ℤ) → name_cmp name k.0 ≡ Less →
    name_number_cmp (name, i) k ≡ Less
later_key k name i h = ap (λ o. ordering_then o (int_cmp i k.1)) h

pub all-append : {X : Type 0} (P : X → Type 0) (xs ys : List X) → AllByRecursion P xs →
    AllByRecursion P ys → AllByRecursion P (xs ++ ys)
all-append P [] ys h l = l
all-append P (x ∷ xs) ys h l = (h.0, all-append P xs ys h.1 l)

-- the rows of rings stand in the order of their keys where those of each do
module _ {V : Type 0} (rows_of : List ℕ × RingRecord → List (NameNumber × V))
    (named : (e : List ℕ × RingRecord) → NamedAs e.0 (rows_of e)) where
  pub later : (name : List ℕ) (rings : NamedRings) →
      AllByRecursion (λ (x : List ℕ × RingRecord). name_cmp name x.0 ≡ Less) rings →
      NamedLater name (flat_map rows_of rings)
  later name [] all = tt
  later name (e ∷ es) all = all-append (λ (x : NameNumber × V). name_cmp name x.0.0 ≡ Less)
      (rows_of e) (flat_map rows_of es)
      (weaker _ _ (λ x h. ap (name_cmp name) h ∙ all.0) (rows_of e) (named e)) (later name es all.1)

  pub sorted : (rings : NamedRings) → Rising rings →
      AllByRecursion (λ e. is_sorted name_number_cmp (rows_of e) ≡ true) rings →
      is_sorted name_number_cmp (flat_map rows_of rings) ≡ true
  sorted [] up each = refl
  sorted (e ∷ es) up each =
      let behind = later e.0 es up.0 in
      sorted-append name_number_cmp (rows_of e) (flat_map rows_of es) each.0 (sorted es up.1 each.1)
      (weaker _ _ (λ x h. below_from name_number_cmp x.0 (flat_map rows_of es)
      (weaker _ _ (λ y l. later_key y.0 x.0.0 x.0.1 (ap (λ n. name_cmp n y.0.0) h ∙ l))
      (flat_map rows_of es) behind)) (rows_of e) (named e))

-- ---- the rows of one ring

pub int_less : (m n : ℕ) → m < n → int_cmp (pos m) (pos n) ≡ Less
int_less m n h = let less : pos m <ℤ pos n = omega (arith, ints) in
    sym (int_cmp_is (pos m) (pos n) Less less)

-- each number is below all behind it
abbrev pub Up : List ℕ → Type 0
Up [] = Unit {0}
Up (n ∷ ns) = AllByRecursion (λ (m : ℕ). n < m) ns × Up ns

up_from : (ns : List ℕ) → AllPairs (λ (m n : ℕ). m < n) ns → Up ns
up_from [] pairs = tt
up_from (n ∷ ns) pairs = (
  recursion_from_All (λ (m : ℕ). n < m) ns (pairs-head (λ (m k : ℕ). m < k)
      n ns pairs),
  up_from ns (pairs-tail (λ (m k : ℕ). m < k) n ns pairs),
)

pub up_of : (ns : List ℕ) → IsStrictlyIncreasing ns → Up ns
up_of ns h = up_from ns (AllPairs-from_increasing ns h)

places_above : {X : Type 0} (m n : ℕ) (xs : List X) → m < n → AllByRecursion (λ (k : ℕ). m < k)
    (map (λ (e : ℕ × X). e.0) (enumerate_from n xs))
places_above m n [] h = tt
places_above m n (x ∷ xs) h = (h, places_above m (n + 1) xs (omega arith))

pub places_up : {X : Type 0} (n : ℕ) (xs : List X) →
    Up (map (λ (e : ℕ × X). e.0) (enumerate_from n xs))
places_up n [] = tt
places_up n (x ∷ xs) = (places_above n (n + 1) xs (omega arith), places_up (n + 1) xs)

-- rows whose numbers rise
module _ {X V : Type 0} (name : List ℕ) (number : X → ℕ) (value : X → V) where
  abbrev pub row : X → NameNumber × V
  row x = ((name, pos (number x)), value x)

  pub named_as : (xs : List X) → NamedAs name (map row xs)
  named_as [] = tt
  named_as (x ∷ xs) = (refl, named_as xs)

  below_rows : (n : ℕ) (xs : List X) → AllByRecursion (λ (m : ℕ). n < m) (map number xs) →
      below_all name_number_cmp (name, pos n) (map row xs) ≡ true
  below_rows n [] all = refl
  below_rows n (x ∷ xs) all =
      and_from _ _ (ap is_lt (ap (λ o. ordering_then o (int_cmp (pos n) (pos (number x))))
      (tied_itself name_total name) ∙ int_less n (number x) all.0)) (below_rows n xs all.1)

  pub sorted_rows : (xs : List X) → Up (map number xs) → is_sorted name_number_cmp (map row xs) ≡
      true
  sorted_rows [] up = refl
  sorted_rows (x ∷ xs) up = and_from _ _ (below_rows (number x) xs up.0) (sorted_rows xs up.1)

-- ---- the tables

pub each_of : {P : List ℕ × RingRecord → Type 0} (Q : List ℕ × RingRecord → Type 0) →
    ((e : List ℕ × RingRecord) → P e → Q e) → (rings : NamedRings) → All P rings →
    AllByRecursion Q rings
each_of {P} Q f rings all = weaker P Q f rings (recursion_from_All P rings all)

pub devices_named : (e : List ℕ × RingRecord) → NamedAs e.0 (map (device_entry e.0) e.1.devices)
devices_named e = named_as e.0 (λ (d : Device). d.id) (λ d. (device_entry e.0 d).1) e.1.devices

pub texts_named : (e : List ℕ × RingRecord) → NamedAs e.0 (map (published_entry e.0) e.1.published)
texts_named e = named_as e.0 (λ (t : ℕ × List ℕ). t.0) (λ t. t.1) e.1.published

pub parts_named : (e : List ℕ × RingRecord) → NamedAs e.0 (part_entries_of e)
parts_named e = named_as e.0 (λ (p : ℕ × Option ℕ). p.0)
    (λ p. (part_entry e.0 e.1.replicas e.1.seats p).1) (enumerate_from 0 e.1.moved)

below_names : (name : List ℕ) (rings : NamedRings) →
    AllByRecursion (λ (x : List ℕ × RingRecord). name_cmp name x.0 ≡ Less) rings →
    below_all name_cmp name (ring_entries rings) ≡ true
below_names name [] all = refl
below_names name (e ∷ es) all = and_from _ _ (ap is_lt all.0) (below_names name es all.1)

pub rings_sorted : (rings : NamedRings) → Rising rings → is_sorted name_cmp (ring_entries rings) ≡
    true
rings_sorted [] up = refl
rings_sorted (e ∷ es) up = and_from _ _ (below_names e.0 es up.0) (rings_sorted es up.1)

pub devices_of_sorted : (e : List ℕ × RingRecord) → IsNamedRing e →
    is_sorted name_number_cmp (map (device_entry e.0) e.1.devices) ≡ true
devices_of_sorted e h = sorted_rows e.0 (λ (d : Device). d.id) (λ d. (device_entry e.0 d).1)
    e.1.devices (up_of (map (λ (d : Device). d.id) e.1.devices) h.valid.devices.rise)

pub texts_of_sorted : (e : List ℕ × RingRecord) → IsNamedRing e →
    is_sorted name_number_cmp (map (published_entry e.0) e.1.published) ≡ true
texts_of_sorted e h = sorted_rows e.0 (λ (t : ℕ × List ℕ). t.0) (λ t. t.1) e.1.published
    (up_of (map (λ (t : ℕ × List ℕ). t.0) e.1.published) h.valid.published.rise)

pub parts_of_sorted : (e : List ℕ × RingRecord) → IsNamedRing e →
    is_sorted name_number_cmp (part_entries_of e) ≡ true
parts_of_sorted e h = sorted_rows e.0 (λ (p : ℕ × Option ℕ). p.0)
    (λ p. (part_entry e.0 e.1.replicas e.1.seats p).1) (enumerate_from 0 e.1.moved)
    (places_up 0 e.1.moved)

module _ (rings : NamedRings) (held : AreRings rings) where
  pub up : Rising rings
  up = rising rings held.by_name

  pub devices_sorted : is_sorted name_number_cmp (device_entries rings) ≡ true
  devices_sorted = sorted (λ e. map (device_entry e.0) e.1.devices) devices_named rings up
      (each_of {P = IsNamedRing} _ devices_of_sorted rings held.each)

  pub texts_sorted : is_sorted name_number_cmp (published_entries rings) ≡ true
  texts_sorted = sorted (λ e. map (published_entry e.0) e.1.published) texts_named rings up
      (each_of {P = IsNamedRing} _ texts_of_sorted rings held.each)

  pub parts_sorted : is_sorted name_number_cmp (part_entries rings) ≡ true
  parts_sorted = sorted part_entries_of parts_named rings up
      (each_of {P = IsNamedRing} _ parts_of_sorted rings held.each)
