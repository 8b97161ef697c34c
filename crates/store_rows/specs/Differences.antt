-- What the change from some rings to others writes.
use Rattle.std.specs.Prelude.{◌≡◌, ◌+◌, ◌≤◌, ◌&&◌, ℕ, Bool, false, not, nat_eq, List, [], ◌∷◌}
use Rattle.std.specs.Prelude.{length, map, filter, Option, Some, None, IsSomeAnd}
use Rattle.std.specs.List.{flat_map}
use Rattle.std.specs.Ordering.{int_eq}
use Rattle.std.specs.Cmp.Lexicographic.{pointwise}
use Rattle.std.specs.declared.cmp.Ordering.{Ordering}
use Rattle.std.specs.FinMap.{FinMap, entries, get, contains_key}
use Rattle.ring_model.specs.Ring.{RingRecord, published_at}
use Rattle.ring_model.specs.Rings.{ring_at}
use Rattle.store_model.specs.declared.change.RowChange.{RowChange}
use Rattle.store_model.specs.declared.change.RowChange.TheVariants.{DropDevice, PutRing}
use Rattle.store_model.specs.declared.change.RowChange.TheVariants.{AddDevice, PutPart, AddPart}
use Rattle.store_model.specs.declared.change.RowChange.TheVariants.{PutPublished}
use Rattle.store_model.specs.Entries as rows
use Rattle.store_model.specs.Contents.{Contents, device_key, ring_of, device_of, part_of}
use Rattle.store_model.specs.Contents.{published_of}
use Rattle.store_model.specs.Changes.{changed_all}
use Rattle.store_rows.specs.OwnTexts.{HavePublishedOwn}
use Rattle.store_rows.specs.RingRows.{NamedRings}
use Rattle.store_rows.specs.Stands.{AreRings, RingContent, contents_for}

-- ---- which rings a change may lead to

-- Each text that the ring published is still there as it was, under its version.
abbrev pub KeepsTexts : RingRecord → RingRecord → Type 0
KeepsTexts old new = (version : ℕ) (text : List ℕ) → published_at old version ≡ Some text →
    published_at new version ≡ Some text

-- No ring, no partition and no published text went.
abbrev pub Grows : NamedRings → NamedRings → Type 0
Grows old new = (name : List ℕ) (ring : RingRecord) → ring_at name old ≡ Some ring →
    IsSomeAnd (ring_at name new) (λ later. (ring.power ≤ later.power) × KeepsTexts ring later)

-- Every ring but the one of this name is as it was, and no ring, no partition and no published text
-- went. So it is after each step of the builder whose command names this ring.
pub record IsChangedAt (name : List ℕ) (old new : NamedRings) : Type 0 where
  pub others : (other : List ℕ) → (other ≡ name → ⊥) → ring_at other new ≡ ring_at other old
  pub grows : Grows old new

-- Where the old rings are such as there are, and published nothing but their own texts, so did the
-- new ones. So it is after each step of the builder.
abbrev pub KeepsOwn : NamedRings → NamedRings → Type 0
KeepsOwn old new = AreRings old → HavePublishedOwn old → HavePublishedOwn new

-- ---- what the changes write

-- The row of `ring` that a change writes, if it does.
abbrev pub ring_written : RowChange → List (List ℕ × rows.Ring)
ring_written (PutRing row) = ring_of row ∷ []
ring_written (DropDevice key) = []
ring_written (AddDevice row) = []
ring_written (PutPart row) = []
ring_written (AddPart row) = []
ring_written (PutPublished row) = []

-- The row of `device` that a change writes, if it does.
abbrev pub device_written : RowChange → List (rows.NameNumber × rows.Device)
device_written (AddDevice row) = device_of row ∷ []
device_written (PutRing row) = []
device_written (DropDevice key) = []
device_written (PutPart row) = []
device_written (AddPart row) = []
device_written (PutPublished row) = []

-- The key of the row of `device` that a change takes out, if it does.
abbrev pub device_dropped : RowChange → List rows.NameNumber
device_dropped (DropDevice key) = device_key key ∷ []
device_dropped (PutRing row) = []
device_dropped (AddDevice row) = []
device_dropped (PutPart row) = []
device_dropped (AddPart row) = []
device_dropped (PutPublished row) = []

-- The row of `part` that a change writes, if it does.
abbrev pub part_written : RowChange → List (rows.NameNumber × rows.Part)
part_written (PutPart row) = part_of row ∷ []
part_written (AddPart row) = part_of row ∷ []
part_written (PutRing row) = []
part_written (DropDevice key) = []
part_written (AddDevice row) = []
part_written (PutPublished row) = []

-- The row of `part` that a change adds and does not put over another, if it does.
abbrev pub part_added : RowChange → List (rows.NameNumber × rows.Part)
part_added (AddPart row) = part_of row ∷ []
part_added (PutPart row) = []
part_added (PutRing row) = []
part_added (DropDevice key) = []
part_added (AddDevice row) = []
part_added (PutPublished row) = []

-- The row of `published` that a change writes, if it does.
abbrev pub text_written : RowChange → List (rows.NameNumber × List ℕ)
text_written (PutPublished row) = published_of row ∷ []
text_written (PutRing row) = []
text_written (DropDevice key) = []
text_written (AddDevice row) = []
text_written (PutPart row) = []
text_written (AddPart row) = []

-- ---- which rows differ

-- Whether two rows of `ring` say the same.
abbrev pub is_same_ring : rows.Ring → rows.Ring → Bool
is_same_ring a b = int_eq a.power b.power && (int_eq a.replicas b.replicas &&
    (int_eq a.min_hours b.min_hours && (int_eq a.next_id b.next_id && int_eq a.version b.version)))

-- Whether two rows of `device` say the same.
abbrev pub is_same_device : rows.Device → rows.Device → Bool
is_same_device a b = int_eq a.region b.region && (int_eq a.zone b.zone &&
    (pointwise nat_eq a.address b.address && (int_eq a.port b.port &&
    (pointwise nat_eq a.name b.name && (int_eq a.weight b.weight && int_eq a.removed b.removed)))))

-- Whether two rows of `part` say the same.
abbrev pub is_same_part : rows.Part → rows.Part → Bool
is_same_part a b = pointwise nat_eq a.devices b.devices && int_eq a.hour b.hour

-- Whether two published texts are the same.
abbrev pub is_same_text : List ℕ → List ℕ → Bool
is_same_text a b = pointwise nat_eq a b

-- Whether what was found, if anything, says the same.
abbrev pub has_same : {V : Type 0} → (V → V → Bool) → Option V → V → Bool
has_same same None value = false
has_same same (Some found) value = same found value

-- The entries of the new map that the old one does not have, or has otherwise.
abbrev pub new_entries : {K V : Type 0} {R : K → K → Ordering} → (V → V → Bool) → FinMap R V →
    FinMap R V → List (K × V)
new_entries same old new = filter (λ e. not (has_same same (get old e.0) e.1)) (entries new)

-- The entries of a map whose keys another does not have.
abbrev pub gone_entries : {K V : Type 0} {R : K → K → Ordering} → FinMap R V → FinMap R V →
    List (K × V)
gone_entries one other = filter (λ e. not (contains_key other e.0)) (entries one)

-- At how many keys two maps differ: at those where the new one has another entry than the old one,
-- or the old one has none, and at those where the new one has none.
abbrev pub differing : {K V : Type 0} {R : K → K → Ordering} → (V → V → Bool) → FinMap R V →
    FinMap R V → ℕ
differing same old new = length (new_entries same old new) + length (gone_entries old new)

-- How many rows of rings, devices, partitions and published texts differ.
abbrev pub differing_rows : Contents → Contents → ℕ
differing_rows old new =
    differing is_same_ring old.rings new.rings + differing is_same_device old.devices new.devices
    + differing is_same_part old.parts new.parts + differing is_same_text old.published
    new.published

-- Each row that these changes write is one that the new contents have and the old ones have not,
-- and all of these are written. The rows of devices that are there no more, or are others now, are
-- taken out. The rows of partitions that are added are those of partitions that had none.
pub record WritesDifferences (old new : Contents) (changes : List RowChange) : Type 0 where
  pub rings : flat_map ring_written changes ≡ new_entries is_same_ring old.rings new.rings
  pub devices : flat_map device_written changes ≡ new_entries is_same_device old.devices new.devices
  pub dropped : flat_map device_dropped changes ≡ map (λ e. e.0) (new_entries is_same_device
      new.devices old.devices)
  pub parts : flat_map part_written changes ≡ new_entries is_same_part old.parts new.parts
  pub added : flat_map part_added changes ≡ gone_entries new.parts old.parts
  pub published : flat_map text_written changes ≡ new_entries is_same_text old.published
      new.published

-- The content with other rings.
abbrev pub with_state : RingContent → NamedRings → RingContent
with_state content rings = record { state = rings; book = content.book; hour = content.hour }

-- So many rows differ between what stands for a content with the old rings and what stands for it
-- with the new ones.
abbrev pub DifferBy : NamedRings → NamedRings → ℕ → Type 0
DifferBy old new count = (content : RingContent) → content.state ≡ old →
    count ≡ differing_rows (contents_for content) (contents_for (with_state content new))

-- The changes lead from what stands for a content with the old rings to what stands for it with the
-- new ones. They write the differences and no more.
pub record IsChange (old new : NamedRings) (changes : List RowChange) : Type 0 where
  pub applied : (content : RingContent) → content.state ≡ old →
      changed_all (contents_for content) changes ≡ contents_for (with_state content new)
  pub written : (content : RingContent) → content.state ≡ old →
      WritesDifferences (contents_for content) (contents_for (with_state content new)) changes
