-- What rows stand for is what was read of them.
use Rattle.std.proofs.Common.{◌≡◌, ℕ, zero, suc, ◌+◌, ◌<◌, List, [], ◌∷◌, ◌++◌, map, take, drop, length}
use Rattle.std.proofs.Common.{get_or, Err, Bool, true, false, ℤ, pos, ◌^◌, refl, sym, ap, subst}
use Rattle.std.proofs.Common.{◌∙◌, arith, to_z, of_z, w64, string_bytes}
use Rattle.std.proofs.lemmas.Int.{ints}
use Rattle.std.specs.List.{AllByRecursion, AllZip}
use Rattle.ring_words.specs.declared.spelling.SpellingFault.{SpellingFault}
use Rattle.ring_words.specs.declared.spelling.SpellingFault.TheVariants.{Bad, NoMemory}
use Rattle.store_rows.specs.Inner.Found.{ReadsRow}
use Rattle.store_rows.specs.Inner.Parted.{BeginsElsewhere}
use Rattle.ring_words.specs.Spelling.{Reads}
use Rattle.ring_words.specs.Texts.{address_text, address_limit}
use Rattle.ring_words.specs.declared.device.Device.{Device}
use Rattle.ring_words.proofs.Spelled.{one_address}
use Rattle.ring_words.specs.Rows.{IsProperRow}
use Rattle.store_model.specs.Contents.{device_of}
use Rattle.store_model.specs.Entries as rows
use Rattle.store_model.specs.declared.rows.DeviceRow.{DeviceRow}
use Rattle.store_rows.specs.RingRows.{device_entry, mark_number}
use Rattle.store_rows.proofs.OneRings.{one_mark}
use Rattle.store_rows.proofs.Steps.{map_append}

module _ {R V : Type 0} (Stands : R → V → Type 0) where
  -- a row of a list stands for the thing at its place
  pub stands_at : (rs : List R) (vs : List V) (i : ℕ) (r : R) → AllZip Stands rs vs →
      i < length rs → r ≡ get_or rs i r →
      (v : V) × Stands r v × (take (suc i) vs ≡ take i vs ++ v ∷ [])
  stands_at [] vs i r all lt is = absurd (omega arith)
  stands_at (x ∷ rs) [] i r all lt is = absurd all
  stands_at (x ∷ rs) (v ∷ vs) zero r all lt is =
      (v, subst (λ y. Stands y v) (sym is) all.0, refl)
  stands_at (x ∷ rs) (v ∷ vs) (suc i) r all lt is =
      let more = stands_at rs vs i r all.1 (omega arith) is in
      (more.0, more.1, ap (λ ys. v ∷ ys) more.2)

  -- one more thing was read
  pub next_thing : {X : Type 0} (value : X → V) (rs : List R) (vs : List V) (i : ℕ) (r : R) (x : X)
      (xs : List X) → AllZip Stands rs vs → i < length rs → r ≡ get_or rs i r →
      ((v : V) → Stands r v → v ≡ value x) → map value xs ≡ take i vs →
      map value (xs ++ x ∷ []) ≡ take (i + 1) vs
  next_thing value rs vs i r x xs all lt is read so_far =
      let at = stands_at rs vs i r all lt is in
      map_append value xs (x ∷ []) ∙ ap (λ ys. ys ++ value x ∷ []) so_far
      ∙ ap (λ y. take i vs ++ y ∷ []) (sym (read at.0 at.1)) ∙ sym at.2
      ∙ ap (λ k. take k vs) (let h : suc i ≡ i + 1 = omega arith in h)

  pub as_many : (rs : List R) (vs : List V) → AllZip Stands rs vs → length rs ≡ length vs
  as_many [] [] all = refl
  as_many [] (v ∷ vs) all = absurd all
  as_many (r ∷ rs) [] all = absurd all
  as_many (r ∷ rs) (v ∷ vs) all = ap suc (as_many rs vs all.1)

-- The number that a row has is the one that was read of it.
pub one_number : (a b : ℕ) (z : ℤ) → z ≡ pos a → a < 2 ^ 32 → to_z w64 (of_z w64 z) ≡ pos b → a ≡ b
one_number a b z is small read =
    let kept : to_z w64 (of_z w64 (pos a)) ≡ pos a = omega (arith, ints) in
    let h : pos a ≡ pos b = sym kept ∙ ap (λ y. to_z w64 (of_z w64 y)) (sym is) ∙ read in cc

one_mark_read : (a b : Bool) (z : ℤ) → z ≡ mark_number a → to_z w64 (of_z w64 z) ≡ mark_number b →
    a ≡ b
one_mark_read true b z is read =
    one_mark true b (let kept : to_z w64 (of_z w64 (pos 1)) ≡ pos 1 = omega (arith, ints) in
    sym kept ∙ ap (λ y. to_z w64 (of_z w64 y)) (sym is) ∙ read)
one_mark_read false b z is read =
    one_mark false b (let kept : to_z w64 (of_z w64 (pos 0)) ≡ pos 0 = omega (arith, ints) in
    sym kept ∙ ap (λ y. to_z w64 (of_z w64 y)) (sym is) ∙ read)

-- A row is read as the device that it stands for.
pub one_device : (row : DeviceRow) (ring : List ℕ) (v d : Device) → device_of row ≡ device_entry ring v
    → v.id < 2 ^ 16 → IsProperRow v.row → to_z w64 (of_z w64 row.id) ≡ pos d.id
    → to_z w64 (of_z w64 row.region) ≡ pos d.row.region
    → to_z w64 (of_z w64 row.zone) ≡ pos d.row.zone
    → string_bytes row.address ≡ address_text d.row.address → d.row.address < address_limit
    → to_z w64 (of_z w64 row.port) ≡ pos d.row.port → string_bytes row.name ≡ d.row.name
    → to_z w64 (of_z w64 row.weight) ≡ pos d.row.weight
    → to_z w64 (of_z w64 row.removed) ≡ mark_number d.removed → v ≡ d
one_device row ring v d is small proper id region zone address within port name weight removed =
    let ids = one_number v.id d.id row.id (ap (λ (x : rows.NameNumber × rows.Device). x.0.1) is)
    (omega arith) id in
    let regions = one_number v.row.region d.row.region row.region
    (ap (λ (x : rows.NameNumber × rows.Device). x.1.region) is)
    (let h = proper.region in omega arith) region in
    let zones = one_number v.row.zone d.row.zone row.zone
    (ap (λ (x : rows.NameNumber × rows.Device). x.1.zone) is)
    (let h = proper.zone in omega arith) zone in
    let addresses = one_address v.row.address d.row.address proper.address within
    (sym (ap (λ (x : rows.NameNumber × rows.Device). x.1.address) is) ∙ address) in
    let ports = one_number v.row.port d.row.port row.port
    (ap (λ (x : rows.NameNumber × rows.Device). x.1.port) is)
    (let h = proper.port.1 in omega arith) port in
    let names = sym (ap (λ (x : rows.NameNumber × rows.Device). x.1.name) is) ∙ name in
    let weights = one_number v.row.weight d.row.weight row.weight
    (ap (λ (x : rows.NameNumber × rows.Device). x.1.weight) is)
    (let h = proper.weight in omega arith) weight in
    let marks = one_mark_read v.removed d.removed row.removed
    (ap (λ (x : rows.NameNumber × rows.Device). x.1.removed) is) removed in
    λ i. record {
      id = ids i;
      row = record {
        region = regions i;
        zone = zones i;
        address = addresses i;
        port = ports i;
        name = names i;
        weight = weights i;
      };
      removed = marks i;
    }

-- Rows that are of a ring at the front.
module _ {R : Type 0} (name_of : R → List ℕ) (name : List ℕ) where
  pub begins_elsewhere : (rs : List R) (i : ℕ) (r : R) → i < length rs → r ≡ get_or rs i r →
      (name_of r ≡ name → ⊥) → BeginsElsewhere name_of name (drop i rs)
  begins_elsewhere [] i r lt is other = absurd (omega arith)
  begins_elsewhere (x ∷ rs) zero r lt is other = λ same. other (ap name_of is ∙ same)
  begins_elsewhere (x ∷ rs) (suc i) r lt is other =
      begins_elsewhere rs i r (omega arith) is other

  named_then : (rs : List R) (i : ℕ) (r : R) → i < length rs → r ≡ get_or rs i r →
      name_of r ≡ name → AllByRecursion (λ x. name_of x ≡ name) (take i rs) →
      AllByRecursion (λ x. name_of x ≡ name) (take (suc i) rs)
  named_then [] i r lt is named all = absurd (omega arith)
  named_then (x ∷ rs) zero r lt is named all = (ap name_of (sym is) ∙ named, tt)
  named_then (x ∷ rs) (suc i) r lt is named all =
      (all.0, named_then rs i r (omega arith) is named all.1)

  pub named_more : (rs : List R) (i : ℕ) (r : R) → i < length rs → r ≡ get_or rs i r →
      name_of r ≡ name → AllByRecursion (λ x. name_of x ≡ name) (take i rs) →
      AllByRecursion (λ x. name_of x ≡ name) (take (i + 1) rs)
  named_more rs i r lt is named all =
      let h : suc i ≡ i + 1 = omega arith in
      subst (λ k. AllByRecursion (λ x. name_of x ≡ name) (take k rs)) h
      (named_then rs i r lt is named all)

-- Where what a row stands for gives what another row stands for, and reading this one failed,
-- reading that one fails likewise.
pub fails_likewise : {X V Y W : Type 0} (value : X → V) (Holds : V → Type 0) (other : Y → W)
    (HoldsToo : W → Type 0) (fault : SpellingFault) → ReadsRow value Holds (Err fault) →
    ((w : W) → HoldsToo w → (v : V) × Holds v) → ReadsRow other HoldsToo (Err fault)
fails_likewise value Holds other HoldsToo Bad found gives = λ w holds. let v = gives w holds in found v.0 v.1
fails_likewise value Holds other HoldsToo NoMemory found gives = tt

-- Reading fails by this fault where a bad one can't be.
pub fails_where : {Y W : Type 0} (other : Y → W) (Holds : W → Type 0) (fault : SpellingFault) →
    (fault ≡ Bad → (w : W) → Holds w → ⊥) → ReadsRow other Holds (Err fault)
fails_where other Holds Bad never = never refl
fails_where other Holds NoMemory never = tt

-- Where what a row stands for has a spelling, reading it failed for want of memory.
pub reads_likewise : {X Y W : Type 0} (Spells : X → Type 0) (other : Y → W) (Holds : W → Type 0)
    (fault : SpellingFault) → Reads Spells (Err fault) → ((w : W) → Holds w → (x : X) × Spells x) →
    ReadsRow other Holds (Err fault)
reads_likewise Spells other Holds Bad read gives = λ w holds. let x = gives w holds in read x.0 x.1
reads_likewise Spells other Holds NoMemory read gives = tt

-- The number of a row is read as it is.
pub number_read : (n : ℕ) (z : ℤ) → z ≡ pos n → n < 2 ^ 32 → to_z w64 (of_z w64 z) ≡ pos n
number_read n z is small =
    ap (λ y. to_z w64 (of_z w64 y)) is
    ∙ (let h : to_z w64 (of_z w64 (pos n)) ≡ pos n = omega (arith, ints) in h)
