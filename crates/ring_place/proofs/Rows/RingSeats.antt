-- The rows of a ring's seats: on its devices, and as many on each device as it has.
use Rattle.std.proofs.Common.{◌≡◌, ◌==◌, ℕ, zero, suc, ◌+◌, ◌*◌, ◌<◌, Bool, true, false, cond, List}
use Rattle.std.proofs.Common.{[], length, map, sum_by, count_by, Option, Some, None, refl, sym, ap}
use Rattle.std.proofs.Common.{subst, ◌∙◌, arith}
use Rattle.std.specs.Prelude.{nat_lt, slice_get}
use Rattle.std.specs.List.{range_with_len}
use Rattle.std.proofs.lemmas.Bool.Decides.{nat_tests}
use Rattle.std.proofs.lemmas.List.{nil_from_length}
use Rattle.std.proofs.lemmas.List.FromFn.{get_or-map-range_with_len, length-map-range_with_len}
use Rattle.std.proofs.lemmas.List.Sums.{sum_by-cons}
use Rattle.std.proofs.lemmas.Option.{get_or_from_slice_get, slice_get_within}
use Rattle.ring_model.specs.Ring.{RingRecord, has_device, is_assigned, partition_count, seat}
use Rattle.ring_model.specs.Valid.{IsValid}
use Rattle.ring_share.specs.Crowd.{is_on, row_of, rows_of, seats_on}
use Rattle.ring_share.specs.Room.{have}
use Rattle.ring_share.proofs.AllSeats.{have_is_rows}
use Rattle.ring_share.proofs.Rows.{length-row_of, row_of_at}
use Rattle.ring_room.specs.Load.{Load, IsLoad, have_in}
use Rattle.ring_room.specs.Rows.{AreKnown}
use Rattle.ring_place.specs.Made.{row_at}
use Rattle.ring_place.specs.Inner.Gathering.{AreRowsOfSeats, IsFilled}

pub length-rows_of : (ring : RingRecord) → length (rows_of ring) ≡ partition_count ring
length-rows_of ring = length-map-range_with_len (λ p. row_of ring p) 0 (partition_count ring)

pub row_at-rows_of : (ring : RingRecord) (partition : ℕ) → partition < partition_count ring →
    row_at (rows_of ring) partition ≡ row_of ring partition
row_at-rows_of ring partition lt = get_or-map-range_with_len (λ p. row_of ring p) 0
    (partition_count ring) partition partition [] lt (omega arith)

-- a seat is on a device of the ring
pub seat_known : (ring : RingRecord) → IsValid ring → (partition replica id : ℕ) →
    seat ring partition replica ≡ Some id → has_device id ring.devices ≡ true
seat_known ring valid partition replica id at =
    let place = partition * ring.replicas + replica in
    let within = slice_get_within ring.seats place id at in
    ap (λ (n : ℕ). has_device n ring.devices) (sym (get_or_from_slice_get ring.seats place id 0 at))
    ∙ valid.seats.known place 0 within

row_known : (ring : RingRecord) → IsValid ring → (partition : ℕ) →
    AreKnown ring.devices (row_of ring partition)
row_known ring valid partition replica id at =
    let within = slice_get_within (row_of ring partition) replica (Some id) at in
    let lt : replica < ring.replicas = omega (arith, within, length-row_of ring partition) in
    seat_known ring valid partition replica id (sym (row_of_at ring partition replica lt) ∙
    get_or_from_slice_get (row_of ring partition) replica (Some id) None at)

pub ring_rows : (ring : RingRecord) → IsValid ring → AreRowsOfSeats ring.devices (rows_of ring)
ring_rows ring valid = record {
  known = λ partition lt.
      let within : partition < partition_count ring = omega (arith, lt, length-rows_of ring) in
      subst (λ r. AreKnown ring.devices r) (sym (row_at-rows_of ring partition within))
      (row_known ring valid partition);
  few = λ partition lt.
      let within : partition < partition_count ring = omega (arith, lt, length-rows_of ring) in
      let same = ap length (row_at-rows_of ring partition within) in
      let few = valid.replicas.1 in
      omega (arith, same, few, length-row_of ring partition);
}

-- ---- how many seats a device has

none_in : (id first n : ℕ) (f : ℕ → Option ℕ) → ((replica : ℕ) → f replica ≡ None) →
    seats_on id (map f (range_with_len first n)) ≡ 0
none_in id first zero f none = refl
none_in id first (suc n) f none =
    let one = sum_by-cons (λ (s : Option ℕ). cond (is_on (λ other. other == id) s) 1 0) (f first)
    (map f (range_with_len (first + 1) n)) in
    let here = ap {B = ℕ} (λ (s : Option ℕ). cond (is_on (λ other. other == id) s) 1 0) (none first)
    in
    let rest = none_in id (first + 1) n f none in
    omega (arith, one, here, rest)

none_at_all : (id first n : ℕ) (f : ℕ → List (Option ℕ)) →
    ((partition : ℕ) → seats_on id (f partition) ≡ 0) →
    sum_by (seats_on id) (map f (range_with_len first n)) ≡ 0
none_at_all id first zero f none = refl
none_at_all id first (suc n) f none =
    let one = sum_by-cons (seats_on id) (f first) (map f (range_with_len (first + 1) n)) in
    let here = none first in
    let rest = none_at_all id (first + 1) n f none in
    omega (arith, one, here, rest)

nothing : (n : ℕ) → nat_lt 0 n ≡ false → n ≡ 0
nothing n h = grind (arith, nat_tests)

have_if : (ring : RingRecord) (id : ℕ) → IsValid ring → (b : Bool) → is_assigned ring ≡ b →
    have ring id ≡ sum_by (seats_on id) (rows_of ring)
have_if ring id valid true assigned = have_is_rows ring id valid assigned
have_if ring id valid false empty =
    let seats : ring.seats ≡ [] = nil_from_length ring.seats (nothing (length ring.seats) empty) in
    let none = none_at_all id 0 (partition_count ring) (λ partition. row_of ring partition)
    (λ partition. none_in id 0 ring.replicas (λ replica. seat ring partition replica)
    (λ replica. ap (λ s. slice_get s (partition * ring.replicas + replica)) seats)) in
    let had : have ring id ≡ 0 = ap (count_by (λ s. s == id)) seats in
    omega (arith, none, had)

-- as many as the rows have
pub have_by_rows : (ring : RingRecord) (id : ℕ) → IsValid ring → have ring id ≡ sum_by (seats_on id)
    (rows_of ring)
have_by_rows ring id valid = have_if ring id valid (is_assigned ring) refl

pub ring_filled : (ring : RingRecord) (load : Load) (wanted : List ℕ) → IsValid ring →
    load.devices ≡ ring.devices → load.wanted ≡ wanted → IsLoad load
    → ((id : ℕ) → has_device id ring.devices ≡ true → have_in load id ≡ have ring id) →
    IsFilled load ring.devices wanted (rows_of ring)
ring_filled ring load wanted valid devices wants is counts = record {
  devices_are = devices;
  wanted_are = wants;
  load = is;
  counts = λ id known. counts id known ∙ have_by_rows ring id valid;
}
