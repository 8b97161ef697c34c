-- A changed ring is valid.
use Rattle.std.proofs.Common.{◌≡◌, ℕ, ◌+◌, ◌<◌, ◌≤◌, Bool, true, false, ◌||◌, cond, List, [], ◌∷◌}
use Rattle.ring_words.specs.Limits.{greatest_long, most_devices, most_ids}
use Rattle.std.proofs.Common.{◌++◌, length, get_or, take, drop, map, refl, sym, ap₂, ◌∙◌}
use Rattle.std.proofs.Common.{⊎_elim, lit≤, arith}
use Rattle.std.specs.Prelude.{All, ◌==◌, slice_index}
use Rattle.std.specs.List.Sorted.{IsStrictlyIncreasing}
use Rattle.std.proofs.lemmas.Bool.{cases_lt, cases_eq, eq-eqb, ne_eqb}
use Rattle.std.proofs.lemmas.List.{length-append, length-map, take_at, get_or_append_left}
use Rattle.std.proofs.lemmas.List.{get_or_at, map-append, get_or-map}
use Rattle.std.proofs.lemmas.List.Folds.{list_any-append}
use Rattle.std.proofs.lemmas.List.Elements.{All-push, All-weaker, All-map}
use Rattle.std.proofs.lemmas.List.Quantifiers.{all_pairs_push}
use Rattle.ring_model.specs.Ring.{RingRecord, has_device, risen, altered, altered_at, added, changed}
use Rattle.ring_model.specs.Ring.{partition_count}
use Rattle.ring_words.specs.Rows.{IsProperRow, has_place, same_place}
use Rattle.ring_words.specs.Texts.{greatest_weight}
use Rattle.ring_model.specs.Import.{after_row, reweighed_by}
use Rattle.ring_model.specs.Valid.{AreApart, AreDevices, AreSeats, IsValid}
use Rattle.ring_words.specs.declared.command.DeviceAct.{DeviceAct}
use Rattle.ring_words.specs.declared.command.DeviceAct.TheVariants.{SetWeight}
use Rattle.ring_words.specs.declared.device.Device.{Device}
use Rattle.ring_words.specs.declared.device.Row.{Row}
use Rattle.ring_model.proofs.Validity.{any_fails_at}

pub risen_fits : (version : ℕ) → version ≤ greatest_long → risen version ≤ greatest_long
risen_fits version fits = ⊎_elim
    (λ e. rw (eq-eqb version greatest_long e) (lit≤ tt))
    (λ ne. rw (ne_eqb version greatest_long ne) (omega arith))
    (cases_eq version greatest_long)

-- ---- one more device

rising_push : (xs : List ℕ) (y : ℕ) → IsStrictlyIncreasing xs → All (λ x. x < y) xs →
    IsStrictlyIncreasing (xs ++ y ∷ [])
rising_push xs y rise below k lt =
    let long : k + 1 < length xs + 1 = omega (arith, length-append xs (y ∷ [])) in
    let first : slice_index (xs ++ y ∷ []) k ≡ slice_index xs k = get_or_append_left xs (y ∷ []) 0 k
    (omega arith) in
    ⊎_elim
    (λ inner. rw (first, get_or_append_left xs (y ∷ []) 0 (k + 1) inner) (rise k inner))
    (λ last. rw (first, get_or_at xs y [] 0 (k + 1) (omega arith)) (below k 0 (omega arith)))
    (cases_lt (k + 1) (length xs))

pub devices_added : (next_id : ℕ) (devices : List Device) (row : Row) → AreDevices next_id devices →
    length devices < most_devices → has_place row devices ≡ false → IsProperRow row →
    AreDevices (next_id + 1) (devices ++ record { id = next_id; row = row; removed = false } ∷ [])
devices_added next_id devices row valid room none proper =
    let device : Device = record { id = next_id; row = row; removed = false } in
    record {
      count = omega (arith, length-append devices (device ∷ []));
      below = All-push (λ (d : Device). d.id < next_id + 1) devices device
          (All-weaker (λ (d : Device). d.id < next_id) (λ (d : Device). d.id < next_id + 1)
          (λ d lt. omega arith) devices valid.below) (omega arith);
      rise = rw (map-append (λ (d : Device). d.id) devices (device ∷ []))
          (rising_push (map (λ (d : Device). d.id) devices) next_id valid.rise
          (All-map (λ n. n < next_id) (λ (d : Device). d.id) devices valid.below));
      apart = all_pairs_push (λ a b. same_place a.row b.row ≡ false) devices device valid.apart
          (λ k d lt. any_fails_at (λ (x : Device). same_place x.row row) devices k d none lt);
      proper = All-push (λ (d : Device). IsProperRow d.row) devices device valid.proper proper;
    }

seats_added : (partitions replicas : ℕ) (devices more : List Device) (seats : List ℕ) →
    AreSeats partitions replicas devices seats → AreSeats partitions replicas (devices ++
    more) seats
seats_added partitions replicas devices more seats valid = record {
  whole = valid.whole;
  known = All-weaker (λ id. has_device id devices ≡ true) (λ id. has_device id (devices ++ more) ≡
      true) (λ id known. rw (list_any-append (λ (d : Device). d.id == id) devices more, known) refl)
      seats valid.known;
  distinct = valid.distinct;
}

pub added_valid : (ring : RingRecord) (row : Row) → IsValid ring →
    length ring.devices < most_devices →
    ring.next_id < most_ids → has_place row ring.devices ≡ false → IsProperRow row →
    IsValid (added ring row)
added_valid ring row valid room numbers none proper = record {
  power = valid.power;
  replicas = valid.replicas;
  min_hours = valid.min_hours;
  next_id = omega arith;
  version = valid.version;
  devices = devices_added ring.next_id ring.devices row valid.devices room none
      proper;
  seats = seats_added (partition_count ring) ring.replicas ring.devices _ ring.seats valid.seats;
  moved = valid.moved;
  hours = valid.hours;
  published = valid.published;
}

-- ---- another version

pub changed_valid : (ring : RingRecord) → IsValid ring → IsValid (changed ring)
changed_valid ring valid = record {
  power = valid.power;
  replicas = valid.replicas;
  min_hours = valid.min_hours;
  next_id = valid.next_id;
  version = risen_fits ring.version valid.version;
  devices = valid.devices;
  seats = valid.seats;
  moved = valid.moved;
  hours = valid.hours;
  published = valid.published;
}

-- ---- devices that keep their numbers and places

abbrev pub Keeps : (Device → Device) → Type 0
Keeps f = ((d : Device) → (f d).id ≡ d.id) ×
    ((a b : Device) → same_place (f a).row (f b).row ≡ same_place a.row b.row)

-- each device is such as there are
abbrev pub AreProperRows : List Device → Type 0
AreProperRows devices = All (λ (d : Device). IsProperRow d.row) devices

pub proper_each : (f : Device → Device)
    → ((d : Device) → IsProperRow d.row → IsProperRow (f d).row)
    → (devices : List Device) → AreProperRows devices → AreProperRows (map f devices)
proper_each f still devices proper = All-map (λ (d : Device). IsProperRow d.row) f devices
    (All-weaker (λ (d : Device). IsProperRow d.row) (λ (d : Device). IsProperRow (f d).row)
    still devices proper)

ids_kept : (f : Device → Device) → Keeps f → (devices : List Device) →
    map (λ (d : Device). d.id) (map f devices) ≡ map (λ (d : Device). d.id) devices
ids_kept f keeps [] = refl
ids_kept f keeps (d ∷ ds) = ap₂ (λ (n : ℕ) (ns : List ℕ). n ∷ ns) (keeps.0 d) (ids_kept f keeps ds)

devices_kept : (f : Device → Device) → Keeps f → (id : ℕ) (devices : List Device) →
    has_device id (map f devices) ≡ has_device id devices
devices_kept f keeps id [] = refl
devices_kept f keeps id (d ∷ ds) = ap₂ (λ (n : ℕ) (b : Bool). (n == id) || b) (keeps.0 d)
    (devices_kept f keeps id ds)

apart_kept : (f : Device → Device) → Keeps f → (devices : List Device) → AreApart devices →
    AreApart (map f devices)
apart_kept f keeps devices apart i j d less lt =
    let within : j < length devices = omega (arith, length-map {A = Device} {B = Device}) in
    let one : get_or (map f devices) i d ≡ f (get_or devices i d) =
    get_or-map f devices i d d (omega arith) in
    let two : get_or (map f devices) j d ≡ f (get_or devices j d) =
    get_or-map f devices j d d within in
    rw (one, two) (keeps.1 (get_or devices i d) (get_or devices j d) ∙ apart i j d less within)

pub altered_valid : (f : Device → Device) → Keeps f → (ring : RingRecord) → IsValid ring →
    AreProperRows (map f ring.devices) → IsValid (record ring { devices = map f ring.devices })
altered_valid f keeps ring valid proper = record {
  power = valid.power;
  replicas = valid.replicas;
  min_hours = valid.min_hours;
  next_id = valid.next_id;
  version = valid.version;
  devices = record {
    count = omega (arith, length-map {A = Device} {B = Device}, valid.devices.count);
    below = All-map (λ (d : Device). d.id < ring.next_id) f ring.devices
        (All-weaker (λ (d : Device). d.id < ring.next_id) (λ (d : Device). (f d).id < ring.next_id)
        (λ d lt. rw (keeps.0 d) lt) ring.devices valid.devices.below);
    rise = rw (ids_kept f keeps ring.devices) valid.devices.rise;
    apart = apart_kept f keeps ring.devices valid.devices.apart;
    proper = proper;
  };
  seats = record {
    whole = valid.seats.whole;
    known = All-weaker (λ n. has_device n ring.devices ≡ true)
        (λ n. has_device n (map f ring.devices) ≡ true) (λ n known. devices_kept f keeps n
        ring.devices ∙ known) ring.seats valid.seats.known;
    distinct = valid.seats.distinct;
  };
  moved = valid.moved;
  hours = valid.hours;
  published = valid.published;
}

-- a device of another weight where a test says so
abbrev weighed_if : Bool → ℕ → Device → Device
weighed_if b weight d = cond b (record d { row = record d.row { weight = weight } }) d

weighed_if-place : (v w : Bool) (one two : ℕ) (a b : Device) → same_place (weighed_if v one a).row
    (weighed_if w two b).row ≡ same_place a.row b.row
weighed_if-place true true one two a b = refl
weighed_if-place true false one two a b = refl
weighed_if-place false true one two a b = refl
weighed_if-place false false one two a b = refl

weighed_if-id : (b : Bool) (weight : ℕ) (d : Device) → (weighed_if b weight d).id ≡ d.id
weighed_if-id true weight d = refl
weighed_if-id false weight d = refl

weighed_if-proper : (b : Bool) (weight : ℕ) (d : Device) → weight ≤ greatest_weight →
    IsProperRow d.row → IsProperRow (weighed_if b weight d).row
weighed_if-proper true weight d le proper = record {
  region = proper.region;
  zone = proper.zone;
  address = proper.address;
  port = proper.port;
  name = proper.name;
  weight = le;
}
weighed_if-proper false weight d le proper = proper

pub reweighed_by_keeps : (row : Row) → Keeps (reweighed_by row)
reweighed_by_keeps row = (
  λ d. weighed_if-id (same_place d.row row) row.weight d,
  λ a b. weighed_if-place (same_place a.row row) (same_place b.row row) row.weight row.weight a b,
)

-- the devices of a valid ring stay such as there are, where a row's weight is put in
pub reweighed_by_proper : (row : Row) → IsProperRow row → (ring : RingRecord) → IsValid ring →
    AreProperRows (map (reweighed_by row) ring.devices)
reweighed_by_proper row proper ring valid = proper_each (reweighed_by row)
    (λ d old. weighed_if-proper (same_place d.row row) row.weight d proper.weight old)
    ring.devices valid.devices.proper

-- a device that something was done to where a test says so
abbrev altered_if : Bool → DeviceAct → Device → Device
altered_if b what d = cond b (altered what d) d

altered_if-id : (b : Bool) (what : DeviceAct) (d : Device) → (altered_if b what d).id ≡ d.id
altered_if-id false what d = refl
altered_if-id true (SetWeight weight) d = refl
altered_if-id true what d = refl

altered_if-place : (v w : Bool) (what : DeviceAct) (a b : Device) →
    same_place (altered_if v what a).row (altered_if w what b).row ≡ same_place a.row b.row
altered_if-place false false what a b = refl
altered_if-place true true (SetWeight weight) a b = refl
altered_if-place true false (SetWeight weight) a b = refl
altered_if-place false true (SetWeight weight) a b = refl
altered_if-place true true what a b = refl
altered_if-place true false what a b = refl
altered_if-place false true what a b = refl

pub altered_keeps : (id : ℕ) (what : DeviceAct) → Keeps (altered_at id what)
altered_keeps id what = (
  λ d. altered_if-id (d.id == id) what d,
  λ a b. altered_if-place (a.id == id) (b.id == id) what a b,
)

-- what a vector holds after each of its elements was written
pub written_all : {X : Type 0} (xs ys : List X) (n : ℕ) → n ≡ length xs → length ys ≡ length xs →
    take n (ys ++ drop (length ys) xs) ≡ ys
written_all xs ys n e f = take_at ys (drop (length ys) xs) n (f ∙ sym e)

-- ---- the record of changed parts

-- a row whose place is free adds a device
pub after_free : (ring : RingRecord) (row : Row) → has_place row ring.devices ≡ false →
    after_row ring row ≡ added ring row
after_free ring row free = rw free refl
