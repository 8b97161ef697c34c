-- What the rows of a store say of rings, in a store of schema 1 or of schema 2.
use Rattle.std.specs.Prelude.{◌≡◌, ℕ, Bool, cond, pos, List, [], ◌∷◌, ◌++◌, map, Option, None, Some}
use Rattle.std.specs.FinMap.{from_entries}
use Rattle.store_model.specs.Contents.{Contents, device_of, moved_of, part_of, published_of}
use Rattle.store_model.specs.Contents.{ring_of, seat_of}
use Rattle.ring_model.specs.Ring.{RingRecord}
use Rattle.store_model.specs.Entries.{NameNumber, Part}
use Rattle.store_model.specs.declared.rows.PartRow.{PartRow}
use Rattle.store_rows.specs.RingRows.{NamedRings, device_entries, part_entries, part_entries_of}
use Rattle.store_rows.specs.RingRows.{published_entries, ring_entries}
use Rattle.store_rows.specs.FirstRows.{moved_entries, seat_entries}
use Rattle.store_rows.specs.Stands.{RingContent, meta_value, request_entries}
use Rattle.store_rows.specs.declared.judging.StoreRows.{StoreRows}

-- The rows of seats, moves and partitions are those of the rings.
pub record SayPlaces (is_first : Bool) (rows : StoreRows) (rings : NamedRings) : Type 0 where
  pub seats : map seat_of rows.seats.items ≡ cond is_first (seat_entries rings) []
  pub moved : map moved_of rows.moved.items ≡ cond is_first (moved_entries rings) []
  pub parts : map part_of rows.parts.items ≡ cond is_first [] (part_entries rings)

-- Rows of partitions begin with those of a ring, and these are the rows behind them; or they don't
-- begin so.
abbrev pub AreBehindParts : List PartRow → List ℕ × RingRecord → Option (List PartRow) → Type 0
AreBehindParts parts e None =
    (more : List (NameNumber × Part)) → map part_of parts ≡ part_entries_of e ++ more → ⊥
AreBehindParts parts e (Some behind) = map part_of parts ≡ part_entries_of e ++ map part_of behind

-- All rows but those of `meta` and `request` are those of the rings.
pub record SayRings (is_first : Bool) (rows : StoreRows) (rings : NamedRings) : Type 0 where
  pub rings_are : map ring_of rows.rings.items ≡ ring_entries rings
  pub devices : map device_of rows.devices.items ≡ device_entries rings
  pub published : map published_of rows.published.items ≡ published_entries rings
  pub places : SayPlaces is_first rows rings

-- What the tables contain where a store of schema 1 or of schema 2 holds this content.
abbrev pub contents_under : Bool → RingContent → Contents
contents_under is_first content = record {
  meta = from_entries ((pos 1, meta_value (cond is_first 1 2) content.hour) ∷ []);
  rings = from_entries (ring_entries content.state);
  devices = from_entries (device_entries content.state);
  seats = from_entries (cond is_first (seat_entries content.state) []);
  moved = from_entries (cond is_first (moved_entries content.state) []);
  published = from_entries (published_entries content.state);
  requests = from_entries (request_entries content.book);
  parts = from_entries (cond is_first [] (part_entries content.state));
}
