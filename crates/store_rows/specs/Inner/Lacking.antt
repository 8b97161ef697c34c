-- What one list of entries lacks of another.
use Rattle.std.specs.Prelude.{ℕ, ◌==◌, Bool, true, not, List, [], ◌∷◌, filter, map, Option, Some, None}
use Rattle.std.specs.Prelude.{is_none, slice_get, slice_index_or}
use Rattle.std.specs.Prelude as prelude
use Rattle.std.specs.Option.{option_map}
use Rattle.std.specs.declared.cmp.Ordering.{Ordering}
use Rattle.std.specs.FinMap.{find}
use Rattle.ring_model.specs.Ring.{RingRecord, published_at}
use Rattle.ring_model.specs.Valid.{IsValid}
use Rattle.ring_words.specs.declared.device.Device.{Device}
use Rattle.store_model.specs.Entries as rows
use Rattle.store_rows.specs.RingRows.{ring_entry, device_entry, part_entry, published_entry}
use Rattle.store_rows.specs.Differences.{KeepsTexts, has_same, is_same_ring, is_same_text}

-- The new entries that the old ones do not have, or have otherwise.
abbrev pub lacking : {K V : Type 0} → (K → K → Ordering) → (V → V → Bool) → List (K × V) →
    List (K × V) → List (K × V)
lacking R same old new = filter (λ e. not (has_same same (find R e.0 old) e.1)) new

-- The old entries whose keys the new ones do not have.
abbrev pub gone : {K V : Type 0} → (K → K → Ordering) → List (K × V) → List (K × V) → List (K × V)
gone R old new = filter (λ e. is_none (find R e.0 new)) old

-- The rows of the ring of a name, none where there is no ring.
abbrev pub rows_at : {E : Type 0} → (List ℕ × RingRecord → List E) → List ℕ → Option RingRecord →
    List E
rows_at rows_of name None = []
rows_at rows_of name (Some ring) = rows_of (name, ring)

-- The row of a ring without its key.
abbrev pub ring_value : RingRecord → rows.Ring
ring_value ring = (ring_entry ([], ring)).1

-- The row of a device without its key.
abbrev pub device_value : Device → rows.Device
device_value device = (device_entry [] device).1

-- The row of the device of a number, without its key, if there is one.
abbrev pub device_in : ℕ → List Device → Option rows.Device
device_in id devices = option_map device_value (prelude.find (λ device. device.id == id) devices)

-- The row of a partition without its key.
abbrev pub part_value : RingRecord → ℕ → Option ℕ → rows.Part
part_value ring partition hour = (part_entry [] ring.replicas ring.seats (partition, hour)).1

-- The row of a partition of a ring.
abbrev pub part_at : List ℕ → RingRecord → ℕ → rows.NameNumber × rows.Part
part_at name ring partition = part_entry name ring.replicas ring.seats
    (partition, slice_index_or ring.moved partition None)

-- The row of a partition of a ring, without its key, if there is one.
abbrev pub part_in : Option RingRecord → ℕ → Option rows.Part
part_in None partition = None
part_in (Some ring) partition = option_map (part_value ring partition)
    (slice_get ring.moved partition)

-- The text that a ring published under a version, if there is one.
abbrev pub text_in : Option RingRecord → ℕ → Option (List ℕ)
text_in None version = None
text_in (Some ring) version = published_at ring version

-- The rows of the devices of one ring.
abbrev pub device_entries_of : List ℕ × RingRecord → List (rows.NameNumber × rows.Device)
device_entries_of e = map (device_entry e.0) e.1.devices

-- The rows of the published texts of one ring.
abbrev pub text_entries_of : List ℕ × RingRecord → List (rows.NameNumber × List ℕ)
text_entries_of e = map (published_entry e.0) e.1.published

-- The rows of a ring's published texts that another ring of its name, if there is one, has not.
abbrev pub lacking_texts : List ℕ → Option RingRecord → RingRecord →
    List (rows.NameNumber × List ℕ)
lacking_texts name old ring = lacking rows.name_number_cmp is_same_text
    (rows_at text_entries_of name old) (text_entries_of (name, ring))

-- Two published texts under one version are taken for the same, where no published text changes.
abbrev pub is_kept_text : List ℕ → List ℕ → Bool
is_kept_text a b = true

-- A valid ring, which has each text that an earlier valid one published.
pub record Succeeds (old ring : RingRecord) : Type 0 where
  pub before : IsValid old
  pub valid : IsValid ring
  pub texts : KeepsTexts old ring

-- The row of a ring where the old ring has it not.
abbrev pub added_ring : Option RingRecord → List ℕ × RingRecord → List (List ℕ × rows.Ring)
added_ring old e = filter (λ row. not (has_same is_same_ring (option_map ring_value old) row.1))
    (ring_entry e ∷ [])
