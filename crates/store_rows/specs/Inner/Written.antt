-- The rows that a change writes or takes out.
use Rattle.std.specs.Prelude.{◌≡◌, ℕ, ℤ, pos, List, [], IfSome, Option, Some, None, cond, filter}
use Rattle.std.specs.Prelude.{int_lt, map, not}
use Rattle.ring_model.specs.Ring.{RingRecord, partition_count}
use Rattle.store_model.specs.Contents.{device_of, part_of, published_of, ring_of}
use Rattle.store_model.specs.Entries.{NameNumber, Part, name_cmp, name_number_cmp}
use Rattle.store_model.specs.declared.change.RowChange.{RowChange}
use Rattle.store_model.specs.declared.change.RowChange.TheVariants.{AddPart, PutPart}
use Rattle.store_model.specs.declared.rows.PartRow.{PartRow}
use Rattle.store_rows.specs.Differences.{is_same_device, is_same_part, is_same_ring, is_same_text}
use Rattle.store_rows.specs.Inner.Lacking.{Succeeds, added_ring, device_entries_of, gone, lacking}
use Rattle.store_rows.specs.Inner.Lacking.{rows_at, text_entries_of}
use Rattle.store_rows.specs.RingRows.{NamedRings, device_entries, part_entries, part_entries_of}
use Rattle.store_rows.specs.RingRows.{published_entries, ring_entries}
use Rattle.store_rows.specs.declared.written.WrittenRows.{WrittenRows}

-- How many partitions a ring has, none where there is no ring.
abbrev pub known_partitions : Option RingRecord → ℕ
known_partitions None = 0
known_partitions (Some ring) = partition_count ring

-- The change that writes the row of a partition, where those below this number have a row already.
abbrev pub part_change : ℤ → PartRow → RowChange
part_change known row = cond (int_lt row.part known) (PutPart row) (AddPart row)

-- The rows of the partitions from this number on.
abbrev pub parts_from : ℤ → List (NameNumber × Part) → List (NameNumber × Part)
parts_from known parts = filter (λ e. not (int_lt e.0.1 known)) parts

-- There are none.
pub record AreNone (rows : WrittenRows) : Type 0 where
  pub dropped : rows.dropped.items ≡ []
  pub rings : rows.rings.items ≡ []
  pub devices : rows.devices.items ≡ []
  pub parts : rows.parts.items ≡ []
  pub texts : rows.texts.items ≡ []

-- These are the rows that a ring has and the old ring of its name, if there was one, has not, and
-- the rows of devices that only the old ring has.
pub record AreRowsOfRing (name : List ℕ) (old : Option RingRecord) (ring : RingRecord)
    (rows : WrittenRows) : Type 0 where
  pub dropped : map device_of rows.dropped.items ≡ lacking name_number_cmp is_same_device
      (device_entries_of (name, ring)) (rows_at device_entries_of name old)
  pub rings : map ring_of rows.rings.items ≡ added_ring old (name, ring)
  pub devices : map device_of rows.devices.items ≡ lacking name_number_cmp is_same_device
      (rows_at device_entries_of name old) (device_entries_of (name, ring))
  pub parts : map part_of rows.parts.items ≡ lacking name_number_cmp is_same_part
      (rows_at part_entries_of name old) (part_entries_of (name, ring))
  pub known : rows.known ≡ pos (known_partitions old)
  pub texts : IfSome old (λ earlier. Succeeds earlier ring) → map published_of rows.texts.items ≡
      lacking name_number_cmp is_same_text (rows_at text_entries_of name old)
      (text_entries_of (name, ring))

-- These are the rows that the new rings have and the old ones have not, and the rows of devices that
-- only the old ones have.
pub record AreRowsBetween (old new : NamedRings) (rows : WrittenRows) : Type 0 where
  pub dropped : map device_of rows.dropped.items ≡ lacking name_number_cmp is_same_device
      (device_entries new) (device_entries old)
  pub rings : map ring_of rows.rings.items ≡ lacking name_cmp is_same_ring (ring_entries old)
      (ring_entries new)
  pub devices : map device_of rows.devices.items ≡ lacking name_number_cmp is_same_device
      (device_entries old) (device_entries new)
  pub parts : map part_of rows.parts.items ≡ lacking name_number_cmp is_same_part
      (part_entries old) (part_entries new)
  pub added : parts_from rows.known (map part_of rows.parts.items) ≡ gone name_number_cmp
      (part_entries new) (part_entries old)
  pub texts : map published_of rows.texts.items ≡ lacking name_number_cmp is_same_text
      (published_entries old) (published_entries new)
