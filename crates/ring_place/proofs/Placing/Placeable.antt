-- What is gathered of a ring can be put.
use Rattle.std.proofs.Common.{◌≡◌, ◌≢◌, ◌==◌, ℕ, zero, suc, ◌+◌, ◌*◌, ◌<◌, ◌≤◌, Bool, true, false}
use Rattle.std.proofs.Common.{not, cond, ◌&&◌, List, [], ◌∷◌, length, count_by, sum_by, Option}
use Rattle.std.proofs.Common.{Some, None, refl, sym, ap, subst, ◌∙◌, inl, inr, ⊎_elim, arith}
use Rattle.std.proofs.Common.{slice_get}
use Rattle.std.specs.Prelude.{if◌then◌else◌, nat_lt, slice_index}
use Rattle.std.specs.List.{range_with_len}
use Rattle.std.proofs.Math.Nat.{add-mul}
use Rattle.std.proofs.lemmas.Bool.{cases_Bool, cases_eq, eq-eqb, ne_eqb}
use Rattle.std.proofs.lemmas.List.Folds.{list_any_at}
use Rattle.std.proofs.lemmas.List.FromFn.{get_or-map-range_with_len, length-map-range_with_len}
use Rattle.std.proofs.lemmas.List.Sums.{sum_by-cons}
use Rattle.std.proofs.lemmas.Option.{get_or_from_slice_get, same_Some, slice_get_within}
use Rattle.ring_model.specs.Ring.{RingRecord, has_device, has_present, partition_count, seat}
use Rattle.ring_model.specs.Valid.{IsValid}
use Rattle.ring_words.specs.declared.device.Device.{Device}
use Rattle.ring_share.specs.Crowd.{is_on, row_of, rows_of, seats_on}
use Rattle.ring_share.specs.Room.{has_open, place_of}
use Rattle.ring_share.specs.Want.{AreWanted, is_open}
use Rattle.ring_share.proofs.Balances.{few_seats}
use Rattle.ring_share.proofs.Rows.{length-row_of, row_of_at}
use Rattle.ring_share.proofs.Standing.{found_device, position_or_len_none}
use Rattle.ring_place.specs.Inner.Gathering.{IsGathered, gathered_in}
use Rattle.ring_room.specs.Load.{Load, have_in}
use Rattle.ring_place.specs.Inner.Placing.{AllPlaced, CanPlace, IsAlone, IsLifted, MayTakeSeat}
use Rattle.ring_place.specs.Inner.Placing.{OpenWant, RowSeated, have_on}
use Rattle.ring_place.specs.Inner.Finishing.{AreWhole}
use Rattle.ring_place.specs.Rebalance.{IsSeat, has_lost, is_lost, kept_row}
use Rattle.ring_place.specs.Made.{row_at}
use Rattle.ring_room.proofs.Searching.DevicesAt.{open_at, place_stands}
use Rattle.ring_place.proofs.Placing.Filling.{stands}
use Rattle.ring_place.proofs.Rows.IndexRanges.{range_get, sum_map}

-- ---- rows whose seats differ

none_on : (id : ℕ) (row : List (Option ℕ)) → ((k : ℕ) → slice_get row k ≡ Some (Some id) → ⊥) →
    seats_on id row ≡ 0
none_on id [] none = refl
none_on id (None ∷ row) none =
    let one = sum_by-cons (λ (s : Option ℕ). cond (is_on (λ o. o == id) s) 1 0) None row in
    omega (arith, one, none_on id row (λ k at. none (suc k) at))
none_on id (Some x ∷ row) none =
    let one = sum_by-cons (λ (s : Option ℕ). cond (is_on (λ o. o == id) s) 1 0) (Some x) row in
    let here : ◌≡◌ {A = ℕ} (cond (x == id) 1 0) 0 =
    ap (λ b. cond b 1 0) (ne_eqb x id (λ same. none zero (ap (λ y. Some (Some y)) same))) in
    omega (arith, one, here, none_on id row (λ k at. none (suc k) at))

at_most_one : (b : Bool) → cond b 1 0 ≤ 1
at_most_one true = omega arith
at_most_one false = omega arith

pub few_on : (id : ℕ) (row : List (Option ℕ)) → ((i j : ℕ) → slice_get row i ≡ Some (Some id) →
    slice_get row j ≡ Some (Some id) → i ≡ j) → seats_on id row ≤ 1
few_on id [] distinct = omega arith
few_on id (None ∷ row) distinct =
    let one = sum_by-cons (λ (s : Option ℕ). cond (is_on (λ o. o == id) s) 1 0) None row in
    let rest = few_on id row (λ i j at bt. let same = distinct (suc i) (suc j) at bt in
    omega (arith, same)) in
    omega (arith, one, rest)
few_on id (Some x ∷ row) distinct =
    let one = sum_by-cons (λ (s : Option ℕ). cond (is_on (λ o. o == id) s) 1 0) (Some x) row in
    ⊎_elim
    (λ same. let none = none_on id row (λ k at. absurd (let e =
    distinct zero (suc k) (ap (λ y. Some (Some y)) same) at in omega (arith, e))) in let most =
    at_most_one (x == id) in omega (arith, one, none, most))
    (λ other. let here : ◌≡◌ {A = ℕ} (cond (x == id) 1 0) 0 =
    ap (λ b. cond b 1 0) (ne_eqb x id other) in
    let rest = few_on id row (λ i j at bt. let same = distinct (suc i) (suc j) at bt in
    omega (arith, same)) in
    omega (arith, one, here, rest))
    (cases_eq x id)

sum_const : (f : ℕ → ℕ) (c a n : ℕ) → ((k : ℕ) → f k ≡ c) → sum_by f (range_with_len a n) ≡ n * c
sum_const f c a zero same = omega arith
sum_const f c a (suc n) same =
    let one = sum_by-cons f a (range_with_len (a + 1) n) in
    let rest = sum_const f c (a + 1) n same in
    let here = same a in
    let next : suc n * c ≡ n * c + c = (let up : suc n ≡ n + 1 = omega arith in
    ap (λ (k : ℕ). k * c) up) ∙ add-mul n 1 c ∙ omega arith in
    omega (arith, one, rest, here, next)

pub fails : (b : Bool) → (b ≡ true → ⊥) → b ≡ false
fails true h = absurd (h refl)
fails false h = refl

beyond : (xs : List ℕ) (k : ℕ) → length xs ≤ k → slice_index xs k ≡ 0
beyond [] k le = refl
beyond (x ∷ xs) zero le = absurd (omega arith)
beyond (x ∷ xs) (suc k) le = beyond xs k (omega (arith, le))

-- ---- wants

-- a device that isn't open wants nothing
pub open_want : (old : RingRecord) (left : Load) → IsValid old → AreWanted old left.wanted →
    left.devices ≡ old.devices → OpenWant left
open_want old left valid wanted same id shut =
    ap (λ (ds : List Device). slice_index left.wanted (place_of id ds)) same ∙ elim
    (cases_Bool (has_device id old.devices)) [
      | inl known ↦
          let found = found_device old.devices id known in
          let s = found.stands in
          let here = place_stands old.devices valid.devices.rise id found.place s in
          let closed : is_open s.device ≡ false =
          sym (open_at old.devices valid.devices.rise found.place s.device s.at) ∙ ap
          (λ n. has_open n old.devices) s.named ∙ ap (has_open id) (sym same) ∙ shut in
          ap (slice_index left.wanted) here ∙ wanted.shares.closed found.place s.device s.at closed
      | inr none ↦
          let past = position_or_len_none (λ (device : Device). device.id == id) old.devices
          (length old.devices) (omega arith) (omega arith)
          (λ k d lt. fails _ (λ yes. let some = list_any_at (λ (device : Device). device.id == id)
          old.devices k d lt yes in cc (some, none))) in
          let count = wanted.shares.count in
          beyond left.wanted (place_of id old.devices) (omega (arith, past, count))
    ]

-- ---- devices that remain

pub open_present : (devices : List Device) (id : ℕ) → has_open id devices ≡ true →
    has_present id devices ≡ true
open_present devices id h =
    let s = stands is_open devices id h in
    list_any_at (λ (device : Device). (device.id == id) && not device.removed) devices s.place
    s.device s.within
    (ap (λ (device : Device). (device.id == id) && not device.removed) s.at ∙ both
    (s.device.id == id) (not s.device.removed) (nat_lt 0 s.device.row.weight)
    (eq-eqb _ _ s.named) s.passes)
  where
    both : (a b c : Bool) → a ≡ true → (b && c) ≡ true → (a && b) ≡ true
    both true true c h k = refl
    both true false c h k = k
    both false b c h k = absurd (cc h)

pub lost_cases : (old : RingRecord) (o : Option ℕ) → is_lost old o ≡ false → (id : ℕ) ×
    (o ≡ Some id) × (has_present id old.devices ≡ true)
lost_cases old None h = absurd (cc h)
lost_cases old (Some id) h = (id, refl, not_not (has_present id old.devices) h)
  where
    not_not : (b : Bool) → not b ≡ false → b ≡ true
    not_not true h = refl
    not_not false h = absurd (cc h)

-- ---- a partition

kept_seat : (b : Bool) (o : Option ℕ) (id : ℕ) → (if b then None else o) ≡ Some id → o ≡ Some id
kept_seat true o id h = absurd (cc h)
kept_seat false o id h = h

up_or_empty : (b : Bool) (o : Option ℕ) → (if b then None else o) ≡ None → o ≢ None → b ≡ true
up_or_empty true o h ne = refl
up_or_empty false o h ne = absurd (ne h)

module _ (old : RingRecord) (hour : ℕ) (left : Load) (rows : List (List (Option ℕ)))
    (valid : IsValid old) (gathered : IsGathered old hour left rows) where
  length_rows : length rows ≡ partition_count old
  length_rows = ap length gathered.rows_are ∙ length-map-range_with_len
      (λ p. kept_row old (gathered_in rows) p) 0 (partition_count old)

  rows_at : (p : ℕ) → p < partition_count old → row_at rows p ≡ kept_row old (gathered_in rows) p
  rows_at p lt = ap (λ rs. row_at rs p) gathered.rows_are ∙ get_or-map-range_with_len
      (λ q. kept_row old (gathered_in rows) q) 0 (partition_count old) p p [] lt (omega arith)

  old_at : (p : ℕ) → p < partition_count old → row_at (rows_of old) p ≡ row_of old p
  old_at p lt = get_or-map-range_with_len (λ q. row_of old q) 0 (partition_count old) p p [] lt
      (omega arith)

  length_kept : (p : ℕ) → length (kept_row old (gathered_in rows) p) ≡ old.replicas
  length_kept p = length-map-range_with_len (λ replica. if gathered_in rows p replica then None else
      seat old p replica) 0 old.replicas

  -- what is read in a row is what is on the seat
  old_read : (p r : ℕ) (o : Option ℕ) → slice_get (row_of old p) r ≡ Some o → (r < old.replicas) ×
      (seat old p r ≡ o)
  old_read p r o at =
      let within = slice_get_within (row_of old p) r o at in
      let lt : r < old.replicas = omega (arith, within, length-row_of old p) in (
        lt,
        same_Some (seat old p r) o (sym (range_get (λ replica. seat old p replica) old.replicas r
            lt) ∙ at),
      )

  kept_read : (p r : ℕ) (o : Option ℕ) → slice_get (kept_row old (gathered_in rows) p) r ≡ Some o →
      (r < old.replicas) × ((if gathered_in rows p r then None else seat old p r) ≡ o)
  kept_read p r o at =
      let within = slice_get_within (kept_row old (gathered_in rows) p) r o at in
      let lt : r < old.replicas = omega (arith, within, length_kept p) in (
        lt,
        same_Some (if gathered_in rows p r then None else seat old p r) o
            (sym (range_get (λ replica. if gathered_in rows p replica then None else
            seat old p replica) old.replicas r lt) ∙ at),
      )

  seat_known : (p r id : ℕ) → seat old p r ≡ Some id → has_device id old.devices ≡ true
  seat_known p r id at =
      let within = slice_get_within old.seats (p * old.replicas + r) id at in
      let is = get_or_from_slice_get old.seats (p * old.replicas + r) id 0 at in
      ap (λ x. has_device x old.devices) (sym is) ∙ valid.seats.known (p * old.replicas + r) 0
      within

  old_distinct : (p id i j : ℕ) → slice_get (row_of old p) i ≡ Some (Some id) →
      slice_get (row_of old p) j ≡ Some (Some id) → i ≡ j
  old_distinct p id i j at bt =
      let one = old_read p i (Some id) at in let other = old_read p j (Some id) bt in
      valid.seats.distinct p i j id one.0 other.0 one.1 other.1

  kept_old : (p r id : ℕ) → slice_get (kept_row old (gathered_in rows) p) r ≡ Some (Some id) →
      slice_get (row_of old p) r ≡ Some (Some id)
  kept_old p r id at =
      let read = kept_read p r (Some id) at in
      range_get (λ replica. seat old p replica) old.replicas r read.0 ∙ ap Some
      (kept_seat (gathered_in rows p r) (seat old p r) id read.1)

  lost_there : (p r : ℕ) → r < old.replicas → is_lost old (seat old p r) ≡ true →
      has_lost old p ≡ true
  lost_there p r lt lost =
      list_any_at (is_lost old) (row_of old p) r None (omega (arith, lt, length-row_of old p))
      (ap (is_lost old) (row_of_at old p r lt) ∙ lost)

  alone : (p : ℕ) → p < partition_count old → IsAlone old.devices (row_of old p)
      (kept_row old (gathered_in rows) p)
  alone p lt r id up at present =
      let read = old_read p r (Some id) at in
      let s : IsSeat old p r = record { partition_there = lt; replica_there = read.0 } in
      let some : seat old p r ≢ None = (λ e. let is = read.1 in cc (e, is)) in
      let taken : gathered_in rows p r ≡ true = up_or_empty (gathered_in rows p r) (seat old p r)
      (kept_read p r None up).1 some in
      let there : is_lost old (seat old p r) ≡ false = ap (is_lost old) read.1 ∙ ap not present in
      let none : has_lost old p ≡ false = fails _ (λ yes. let lost = gathered.lawful.only_lost p r s
      yes taken in cc (lost, there)) in (
        none_on id (kept_row old (gathered_in rows) p)
            (λ k kt. let same = old_distinct p id k r (kept_old p k id kt) at in
            let here = subst (λ x. slice_get (kept_row old (gathered_in rows) p) x ≡ Some (Some id))
            same kt in absurd (cc (here, up))),
        λ other up_too.
            let read_too = kept_read p other None up_too in
            let s_too : IsSeat old p other = record {
              partition_there = lt;
              replica_there =
                  read_too.0;
            } in
            let full : seat old p other ≢ None =
            (λ e. let lost = lost_there p other read_too.0 (ap (is_lost old) e) in
            cc (lost, none)) in
            let taken_too = up_or_empty (gathered_in rows p other) (seat old p other) read_too.1
            full in
            gathered.lawful.one p other r s_too s none taken_too taken,
      )

  can_place : (p : ℕ) → p < partition_count old → old.replicas ≤ count_by is_open old.devices →
      CanPlace old.devices (row_of old p) (kept_row old (gathered_in rows) p)
  can_place p lt enough = record {
    as_many = length-row_of old p ∙ sym (length_kept p);
    few = (let most = valid.replicas.1 in omega (arith, length_kept p, most));
    old_known = λ r id at. seat_known p r id (old_read p r (Some id) at).1;
    known = λ r id at. seat_known p r id (old_read p r (Some id) (kept_old p r id at)).1;
    alone = alone p lt;
    distinct = λ id. few_on id (kept_row old (gathered_in rows) p) (λ i j at bt. old_distinct p id i
        j (kept_old p i id at) (kept_old p j id bt));
    enough = omega (arith, enough, length_kept p);
  }

  -- what `place_all` asks for
  pub rows_placeable : (p : ℕ) → p < length rows → old.replicas ≤ count_by is_open old.devices →
      CanPlace left.devices (row_at (rows_of old) p) (row_at rows p)
  rows_placeable p lt enough =
      let within : p < partition_count old = omega (arith, lt, length_rows) in
      subst (λ (ds : List Device). CanPlace ds (row_at (rows_of old) p) (row_at rows p))
      (sym gathered.devices)
      (subst (λ r. CanPlace old.devices r (row_at rows p)) (sym (old_at p within))
      (subst (λ r. CanPlace old.devices (row_of old p) r) (sym (rows_at p within))
      (can_place p within enough)))

  pub rows_count : length (rows_of old) ≡ length rows
  rows_count = length-map-range_with_len (λ p. row_of old p) 0 (partition_count old) ∙ sym
      length_rows

  pub partitions_are : partition_count old ≡ length rows
  partitions_are = sym length_rows

  pub left_counts : (id : ℕ) → has_device id left.devices ≡ true → have_in left id ≡ have_on id rows
  left_counts id known =
      gathered.counts id (ap (has_device id) (sym gathered.devices) ∙ known)
      ∙ sym (ap (sum_by (seats_on id)) gathered.rows_are ∙ sum_map (seats_on id)
      (λ p. kept_row old (gathered_in rows) p) (range_with_len 0 (partition_count old)))

  pub rows_few : sum_by (λ row. length row) rows ≤ 81920
  rows_few =
      let all = ap (sum_by (λ (row : List (Option ℕ)). length row)) gathered.rows_are ∙ sum_map
      (λ (row : List (Option ℕ)). length row) (λ p. kept_row old (gathered_in rows) p)
      (range_with_len 0 (partition_count old)) in
      let each = sum_const (λ p. length (kept_row old (gathered_in rows) p)) old.replicas 0
      (partition_count old) length_kept in
      omega (arith, all, each, few_seats old valid)

  -- ---- seats that are gathered, and the others

  lifted_get : (p r : ℕ) → IsSeat old p r → slice_get (kept_row old (gathered_in rows) p) r ≡ Some
      (if gathered_in rows p r then None else seat old p r)
  lifted_get p r s = range_get (λ replica. if gathered_in rows p replica then None else
      seat old p replica) old.replicas r s.replica_there

  pub old_get : (p r : ℕ) → IsSeat old p r → slice_get (row_of old p) r ≡ Some (seat old p r)
  old_get p r s = range_get (λ replica. seat old p replica) old.replicas r s.replica_there

  pub is_up : (p r : ℕ) → IsSeat old p r → gathered_in rows p r ≡ true →
      IsLifted (kept_row old (gathered_in rows) p) r
  is_up p r s h = lifted_get p r s ∙ ap (λ b. Some (if b then None else seat old p r)) h

  pub is_kept : (p r : ℕ) → IsSeat old p r → gathered_in rows p r ≡ false →
      slice_get (kept_row old (gathered_in rows) p) r ≡ Some (seat old p r)
  is_kept p r s h = lifted_get p r s ∙ ap (λ b. Some (if b then None else seat old p r)) h

  -- a seat that isn't gathered is on a device that remains
  pub stays_on : (p r : ℕ) → IsSeat old p r → gathered_in rows p r ≡ false → (id : ℕ) ×
      (seat old p r ≡ Some id) × (has_present id old.devices ≡ true)
  stays_on p r s h = elim (cases_Bool (is_lost old (seat old p r))) [
    | inl lost ↦ absurd (let up = gathered.lawful.lost p r s lost in cc (up, h))
    | inr there ↦ lost_cases old (seat old p r) there
  ]

  -- ---- rows that are put

  module _ (after : Load) (new : List (List (Option ℕ))) (placed : AllPlaced left after
      (rows_of old) rows new) where
    pub row_put : (p : ℕ) → p < partition_count old → RowSeated after (row_of old p)
        (kept_row old (gathered_in rows) p) (row_at new p)
    row_put p lt =
        subst (λ r. RowSeated after r (kept_row old (gathered_in rows) p) (row_at new p))
        (old_at p lt)
        (subst (λ r. RowSeated after (row_at (rows_of old) p) r (row_at new p)) (rows_at p lt)
        (placed.seated p (omega (arith, lt, length_rows))))

    devices_same : after.devices ≡ old.devices
    devices_same = placed.fills.devices ∙ gathered.devices

    taken_present : (own : Option (Option ℕ)) (id : ℕ) → MayTakeSeat after.devices own id →
        has_present id old.devices ≡ true
    taken_present own id may = elim may [
      | inl opens ↦ open_present old.devices id (ap (has_open id) (sym devices_same) ∙ opens)
      | inr stays ↦ ap (has_present id) (sym devices_same) ∙ stays.1
    ]

    -- each seat is on a device that remains
    pub put_there : (p r : ℕ) → IsSeat old p r → (id : ℕ) ×
        (slice_get (row_at new p) r ≡ Some (Some id)) × (has_present id old.devices ≡ true)
    put_there p r s = elim (cases_Bool (gathered_in rows p r)) [
      | inl up ↦ let put = ((row_put p s.partition_there).placed r (is_up p r s up)).seated in
          (put.0, put.1, taken_present (slice_get (row_of old p) r) put.0 put.2)
      | inr kept ↦ let on = stays_on p r s kept in (
        on.0,
        (row_put p s.partition_there).kept r on.0 (is_kept p r s kept ∙ ap Some on.1),
        on.2,
      )
    ]

    pub whole : AreWhole old new
    whole = record {
      as_many = placed.as_many ∙ length_rows;
      long = λ p lt. (row_put p lt).as_many ∙ length_kept p;
      taken = put_there;
      distinct = λ p id lt. (row_put p lt).distinct id;
    }
