-- The parts of a ring are those for which its rows stand.
use Rattle.std.proofs.Common.{◌≡◌, ℕ, ℤ, ◌+◌, ◌*◌, ◌<◌, ◌≤◌, ◌^◌, ◌==◌, ◌||◌, Bool, true, false}
use Rattle.ring_words.specs.Limits.{most_ids}
use Rattle.std.proofs.Common.{List, [], ◌∷◌, map, All, inl, inr, pos, sym, ap, ◌∙◌}
use Rattle.std.proofs.Common.{to_z, of_z, w64, arith}
use Rattle.std.proofs.lemmas.Bool.{cases_Bool, eqb-true}
use Rattle.std.specs.List.{AllByRecursion, AllZip, enumerate_from, list_any}
use Rattle.std.proofs.lemmas.List.Elements.{All-weaker, recursion_from_All}
use Rattle.ring_model.specs.Ring.{RingRecord, has_device}
use Rattle.ring_model.specs.Valid.{IsValid, IsVersioned}
use Rattle.ring_words.specs.Rows.{IsProperRow}
use Rattle.ring_words.specs.declared.device.Device.{Device}
use Rattle.store_model.specs.Contents.{device_of, published_of, ring_of, seat_of}
use Rattle.store_model.specs.Entries as rows
use Rattle.store_model.specs.declared.rows.DeviceRow.{DeviceRow}
use Rattle.store_model.specs.declared.rows.PublishedRow.{PublishedRow}
use Rattle.store_model.specs.declared.rows.RingRow.{RingRow}
use Rattle.store_model.specs.declared.rows.SeatRow.{SeatRow}
use Rattle.store_rows.specs.RingRows.{device_entry, published_entry, ring_entry}
use Rattle.store_rows.specs.FirstRows.{seat_entry}
use Rattle.store_rows.specs.declared.naming.RingTables.{RingTables}
use Rattle.store_rows.specs.Inner.Found.{StandForPlaces, StandForRing, StandForSeats}
use Rattle.store_rows.specs.Inner.Found.{StandsForDevice, StandsForSeat, StandsForText}
use Rattle.store_rows.proofs.Ordered.{weaker}
use Rattle.store_rows.proofs.Reading.{one_number}

devices_each : (name : List ℕ) (rs : List DeviceRow) (ds : List Device) →
    map device_of rs ≡ map (device_entry name) ds →
    AllByRecursion (λ (d : Device). d.id < 2 ^ 16) ds →
    AllByRecursion (λ (d : Device). IsProperRow d.row) ds → AllZip StandsForDevice rs ds
devices_each name [] [] is ids proper = tt
devices_each name [] (d ∷ ds) is ids proper = cc
devices_each name (r ∷ rs) [] is ids proper = cc
devices_each name (r ∷ rs) (d ∷ ds) is ids proper =
    let head : device_of r ≡ device_entry name d = cc in
    let tail : map device_of rs ≡ map (device_entry name) ds = cc in (
      record {
        ring = name;
        is = head;
        id = ids.0;
        proper = proper.0;
      },
      devices_each name rs ds tail ids.1 proper.1,
    )

texts_each : (name : List ℕ) (rs : List PublishedRow) (ts : List (ℕ × List ℕ)) →
    map published_of rs ≡ map (published_entry name) ts → AllByRecursion IsVersioned ts →
    AllZip StandsForText rs ts
texts_each name [] [] is small = tt
texts_each name [] (t ∷ ts) is small = cc
texts_each name (r ∷ rs) [] is small = cc
texts_each name (r ∷ rs) (t ∷ ts) is small =
    let head : published_of r ≡ published_entry name t = cc in
    let tail : map published_of rs ≡ map (published_entry name) ts = cc in (
      record {
        version = ap (λ (e : rows.NameNumber × List ℕ). e.0.1) head;
        small = small.0;
        body = ap (λ (e : rows.NameNumber × List ℕ). e.1) head;
      },
      texts_each name rs ts tail small.1,
    )

seats_each : (name : List ℕ) (replicas n : ℕ) (rs : List SeatRow) (seats : List ℕ) →
    map seat_of rs ≡ map (seat_entry name replicas) (enumerate_from n seats) →
    AllByRecursion (λ (id : ℕ). id < 2 ^ 16) seats → AllZip StandsForSeat rs seats
seats_each name replicas n [] [] is small = tt
seats_each name replicas n [] (s ∷ seats) is small = cc
seats_each name replicas n (r ∷ rs) [] is small = cc
seats_each name replicas n (r ∷ rs) (s ∷ seats) is small =
    let head : seat_of r ≡ seat_entry name replicas (n, s) = cc in
    let tail : map seat_of rs ≡ map (seat_entry name replicas) (enumerate_from (n + 1) seats) = cc
    in (
      record {
        device = ap (λ (e : rows.SeatKey × ℤ). e.1) head;
        small = small.0;
      },
      seats_each name replicas (n + 1) rs seats tail small.1,
    )

pub seats_zip : (rs : List SeatRow) (seats : List ℕ) → StandForSeats rs seats →
    AllZip StandsForSeat rs seats
seats_zip rs seats s = seats_each s.name s.replicas 0 rs seats s.is
    (recursion_from_All (λ (id : ℕ). id < 2 ^ 16) seats s.small)

known_small : (next id : ℕ) (ds : List Device) → next ≤ most_ids → has_device id ds ≡ true →
    AllByRecursion (λ (d : Device). d.id < next) ds → id < 2 ^ 16
known_small next id [] few known below = cc
known_small next id (d ∷ ds) few known below = elim (cases_Bool (d.id == id)) [
  | inl here ↦ let same : d.id ≡ id = eqb-true d.id id here in
      let less = below.0 in omega arith
  | inr other ↦ known_small next id ds few
      (sym (ap (λ (b : Bool). b || list_any (λ (x : Device). x.id == id) ds) other) ∙ known)
      below.1
]

module _ (is_first : Bool) (row : RingRow) (tables : RingTables) (ring : RingRecord)
    (s : StandForRing is_first row tables ring) where
  valid : IsValid ring
  valid = s.proper.valid

  ids : AllByRecursion (λ (d : Device). d.id < ring.next_id) ring.devices
  ids = recursion_from_All (λ (d : Device). d.id < ring.next_id) ring.devices valid.devices.below

  pub devices_zip : AllZip StandsForDevice tables.devices.now ring.devices
  devices_zip = devices_each s.name tables.devices.now ring.devices s.devices
      (weaker _ _ (λ d h. let few = valid.next_id in omega arith) ring.devices ids)
      (recursion_from_All (λ (d : Device). IsProperRow d.row) ring.devices valid.devices.proper)

  pub texts_zip : AllZip StandsForText tables.published.now ring.published
  texts_zip = texts_each s.name tables.published.now ring.published s.published
      (recursion_from_All IsVersioned ring.published valid.published.versions)

  seats_small : All (λ (id : ℕ). id < 2 ^ 16) ring.seats
  seats_small = All-weaker (λ (id : ℕ). has_device id ring.devices ≡ true)
      (λ (id : ℕ). id < 2 ^ 16)
      (λ id known. known_small ring.next_id id ring.devices valid.next_id known ids) ring.seats
      valid.seats.known

pub places_of : (is_first : Bool) (row : RingRow) (tables : RingTables) (ring : RingRecord)
    (s : StandForRing is_first row tables ring) →
    StandForPlaces is_first tables (2 ^ ring.power) (ring.seats, ring.moved)
places_of true row tables ring s = (
  record {
    name = s.name;
    replicas = ring.replicas;
    is = s.seats;
    small = seats_small true row tables ring s;
  },
  record {
    name = s.name;
    is = s.moved;
    count = s.proper.valid.moved;
    hours = s.proper.valid.hours;
  },
)
places_of false row tables ring s = record {
  name = s.name;
  replicas = ring.replicas;
  is = s.parts;
  whole = λ some. s.proper.valid.seats.whole some
      ∙ ap (λ (n : ℕ). n * ring.replicas) (sym s.proper.valid.moved);
  seats = seats_small false row tables ring s;
  hours = s.proper.valid.hours;
}

-- a field of a ring's row
pub value_of : {A : Type 0} (row : RingRow) (name : List ℕ) (ring : RingRecord)
    (field : rows.Ring → A) → ring_of row ≡ ring_entry (name, ring) →
    field (ring_of row).1 ≡ field (ring_entry (name, ring)).1
value_of row name ring field is = ap (λ (e : List ℕ × rows.Ring). field e.1) is

pub one_power : (row : RingRow) (name : List ℕ) (ring : RingRecord) (n : ℕ) →
    ring_of row ≡ ring_entry (name, ring) → IsValid ring → to_z w64 (of_z w64 row.power) ≡ pos n →
    ring.power ≡ n
one_power row name ring n is valid read = one_number ring.power n row.power
    (value_of row name ring (λ v. v.power) is) (let few = valid.power.1 in omega arith) read
