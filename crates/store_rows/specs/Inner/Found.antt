-- What reading a row says where the row stands for something.
use Rattle.std.specs.Prelude.{◌≡◌, ◌++◌, ◌+◌, ◌<◌, ◌≤◌, ◌*◌, ℕ, ℤ, Bool, true, false, cond}
use Rattle.std.specs.Prelude.{List, [], All, map, length, Option, Result, Ok, Err, ⊤, pos}
use Rattle.std.specs.List.{enumerate_from, flat_map}
use Rattle.std.specs.Rc.{rc_str_bytes}
use Rattle.ring_words.specs.Limits.{long_count, short_count}
use Rattle.ring_words.specs.declared.device.Device.{Device}
use Rattle.ring_words.specs.declared.spelling.SpellingFault.{SpellingFault}
use Rattle.ring_words.specs.declared.spelling.SpellingFault.TheVariants.{Bad, NoMemory}
use Rattle.ring_words.specs.Rows.{IsProperRow}
use Rattle.ring_model.specs.Ring.{RingRecord}
use Rattle.store_model.specs.Contents.{device_of, moved_of, part_of, published_of, request_of}
use Rattle.store_model.specs.Contents.{ring_of, seat_of}
use Rattle.store_model.specs.Entries.{NameNumber}
use Rattle.store_model.specs.declared.rows.DeviceRow.{DeviceRow}
use Rattle.store_model.specs.declared.rows.MovedRow.{MovedRow}
use Rattle.store_model.specs.declared.rows.PartRow.{PartRow}
use Rattle.store_model.specs.declared.rows.PublishedRow.{PublishedRow}
use Rattle.store_model.specs.declared.rows.RequestRow.{RequestRow}
use Rattle.store_model.specs.declared.rows.RingRow.{RingRow}
use Rattle.store_model.specs.declared.rows.SeatRow.{SeatRow}
use Rattle.store_rows.specs.RingRows.{device_entry, part_entry, part_entries_of}
use Rattle.store_rows.specs.RingRows.{published_entry, ring_entry}
use Rattle.store_rows.specs.FirstRows.{moved_entry, seat_entry}
use Rattle.store_rows.specs.Stands.{DecidedRequest, IsDecision, IsNamedRing, request_entry}
use Rattle.ring_model.specs.Valid.{IsHour}
use Rattle.store_rows.specs.declared.naming.RingTables.{RingTables}

-- Where there is one thing of which this holds, it is what was read, and nothing was bad. Want of
-- memory says nothing.
abbrev pub ReadsRow : {X V : Type 0} → (X → V) → (V → Type 0) → Result X SpellingFault → Type 0
ReadsRow {V = V} value Holds (Ok x) = (v : V) → Holds v → v ≡ value x
ReadsRow {V = V} value Holds (Err Bad) = (v : V) → Holds v → ⊥
ReadsRow value Holds (Err NoMemory) = ⊤

-- The row stands for this device of a ring.
pub record StandsForDevice (row : DeviceRow) (device : Device) : Type 0 where
  pub ring : List ℕ
  pub is : device_of row ≡ device_entry ring device
  pub id : device.id < short_count
  pub proper : IsProperRow device.row

-- The row stands for this text under its version.
pub record StandsForText (row : PublishedRow) (text : ℕ × List ℕ) : Type 0 where
  pub version : row.version ≡ pos text.0
  pub small : text.0 < long_count
  pub body : rc_str_bytes row.body ≡ text.1

-- The row stands for a seat on this device.
pub record StandsForSeat (row : SeatRow) (id : ℕ) : Type 0 where
  pub device : row.device ≡ pos id
  pub small : id < short_count

-- The row is that of this decided request, at its place.
pub record StandsForRequest (row : RequestRow) (e : DecidedRequest) : Type 0 where
  pub place : ℕ
  pub is : request_of row ≡ request_entry (place, e)
  pub small : place < long_count
  pub decision : IsDecision e

-- The seats of a ring, and the hours of its partitions' last moves.
abbrev pub Places : Type 0
Places = List ℕ × List (Option ℕ)

-- The rows stand for these seats and last moves, by partition.
pub record StandForParts (rows : List PartRow) (places : Places) : Type 0 where
  pub name : List ℕ
  pub replicas : ℕ
  pub is : map part_of rows ≡ map (part_entry name replicas places.0) (enumerate_from 0 places.1)
  pub whole : 0 < length places.0 → length places.0 ≡ length places.1 * replicas
  pub seats : All (λ id. id < short_count) places.0
  pub hours : All IsHour places.1

-- The rows begin with that of this partition, where it was moved, at this hour, and these are the
-- others: rows of later partitions.
pub record StandForMove (rows : List MovedRow) (partition : ℕ)
    (found : Option ℕ × List (NameNumber × ℤ)) : Type 0 where
  pub name : List ℕ
  pub is : map moved_of rows ≡ moved_entry name (partition, found.0) ++ found.1
  pub others : List (Option ℕ)
  pub later : found.1 ≡ flat_map (moved_entry name) (enumerate_from (partition + 1) others)
  pub few : partition + 1 + length others ≤ long_count
  pub hour : IsHour found.0

-- The rows stand for the last moves of so many partitions.
pub record StandForMoves (rows : List MovedRow) (partitions : ℕ) (moved : List (Option ℕ)) : Type 0
  where
    pub name : List ℕ
    pub is : map moved_of rows ≡ flat_map (moved_entry name) (enumerate_from 0 moved)
    pub count : length moved ≡ partitions
    pub hours : All IsHour moved

-- The rows stand for these seats.
pub record StandForSeats (rows : List SeatRow) (seats : List ℕ) : Type 0 where
  pub name : List ℕ
  pub replicas : ℕ
  pub is : map seat_of rows ≡ map (seat_entry name replicas) (enumerate_from 0 seats)
  pub small : All (λ id. id < short_count) seats

-- The rows stand for these seats and last moves of so many partitions, in a store of schema 1 or of
-- schema 2.
abbrev pub StandForPlaces : Bool → RingTables → ℕ → Places → Type 0
StandForPlaces true tables partitions places = StandForSeats tables.seats.now places.0
    × StandForMoves tables.moved.now partitions places.1
StandForPlaces false tables partitions places = StandForParts tables.parts.now places

-- The row of a ring and its rows in the other tables stand for this ring.
pub record StandForRing (is_first : Bool) (row : RingRow) (tables : RingTables) (ring : RingRecord)
    : Type 0 where
  pub name : List ℕ
  pub is : ring_of row ≡ ring_entry (name, ring)
  pub devices : map device_of tables.devices.now ≡ map (device_entry name) ring.devices
  pub published : map published_of tables.published.now ≡ map (published_entry name) ring.published
  pub seats : map seat_of tables.seats.now ≡ cond is_first
      (map (seat_entry name ring.replicas) (enumerate_from 0 ring.seats)) []
  pub moved : map moved_of tables.moved.now ≡ cond is_first
      (flat_map (moved_entry name) (enumerate_from 0 ring.moved)) []
  pub parts : map part_of tables.parts.now ≡ cond is_first [] (part_entries_of (name, ring))
  pub proper : IsNamedRing (name, ring)
