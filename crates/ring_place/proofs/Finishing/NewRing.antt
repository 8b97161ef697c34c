-- From the rows that are put to what one rebalance says of the old ring and the new one.
use Rattle.std.proofs.Common.{◌≡◌, ◌==◌, ℕ, zero, suc, ◌+◌, ◌*◌, ◌^◌, ◌<◌, Bool, true, false, ◌&&◌}
use Rattle.std.proofs.Common.{◌||◌, List, [], ◌∷◌, length, get_or, map, count_by, sum_by, Option}
use Rattle.std.proofs.Common.{Some, None, refl, sym, ap, subst, ◌∙◌, inl, inr, arith, slice_get}
use Rattle.std.specs.Prelude.{if◌then◌else◌, nat_lt, slice_index}
use Rattle.std.specs.List.{list_any, range_with_len}
use Rattle.std.specs.List.Sorted.{IsStrictlyIncreasing}
use Rattle.std.proofs.lemmas.Bool.{cases_Bool, cases_eq}
use Rattle.std.proofs.lemmas.Bool.Decides.{nat_tests}
use Rattle.std.proofs.lemmas.Nat.{pow_pos}
use Rattle.std.proofs.lemmas.List.Folds.{list_any_none}
use Rattle.std.proofs.lemmas.List.FromFn.{get_or-map-range_with_len, length-map-range_with_len}
use Rattle.std.proofs.lemmas.Option.{slice_get_within, same_Some}
use Rattle.ring_model.specs.Ring.{RingRecord, has_device, has_present, is_assigned, partition_count}
use Rattle.ring_model.specs.Ring.{seat}
use Rattle.ring_model.specs.Valid.{IsValid}
use Rattle.ring_words.specs.declared.device.Device.{Device}
use Rattle.ring_share.specs.Crowd.{crowd, crowd_for, device_by_id, in_region, in_zone, on_server}
use Rattle.ring_share.specs.Crowd.{is_less, is_on, is_outside, others, pass_both, row_of, rows_of}
use Rattle.ring_share.specs.Crowd.{seats_on, tiers_of}
use Rattle.ring_share.specs.Room.{has_open, has_room, have, place_of, want_of}
use Rattle.ring_share.proofs.AllSeats.{have_is_rows}
use Rattle.ring_place.specs.Apart.{GivesApartFirst, IsRebalanceApart}
use Rattle.ring_place.specs.Inner.Gathering.{IsGathered, gathered_in}
use Rattle.ring_room.specs.Free.{has_free_in}
use Rattle.ring_room.specs.Load.{Load, crowd_in, has_room_in, have_in, is_free_in, want_in}
use Rattle.ring_place.specs.Inner.Placing.{AllPlaced, MayTakeSeat, RowSeated, draws, drawn}
use Rattle.ring_place.specs.Inner.Placing.{drawn_in, has_left_from, have_on}
use Rattle.ring_place.specs.Rebalance.{AreSettled, Gathered, IsAfter, IsGain, IsRebalance, IsSeat}
use Rattle.ring_place.specs.Rebalance.{IsSeated, IsWithinRoom, MayTake, count_seats, has_free}
use Rattle.ring_place.specs.Rebalance.{has_left, is_free, kept_count, kept_row, takes_room}
use Rattle.ring_place.specs.Made.{row_at}
use Rattle.ring_place.proofs.Placing.Filling.{free_room, present_known, room_open, want_fills}
use Rattle.ring_place.proofs.Placing.Placeable.{is_kept, is_up, old_get, open_present, put_there}
use Rattle.ring_place.proofs.Placing.Placeable.{row_put, stays_on}
use Rattle.ring_place.proofs.Rows.IndexRanges.{count_same, drawn_is, drawn_row_is, one_seat}
use Rattle.ring_place.proofs.Rows.IndexRanges.{range_get, row_count_same, sum_map, sum_same}
use Rattle.ring_place.proofs.Finishing.RemainingDevices.{IsRest, Remains, any_alike}
use Rattle.ring_place.proofs.Finishing.RemainingDevices.{device_of_remaining, listed_remains}
use Rattle.ring_place.proofs.Finishing.RemainingDevices.{open_remaining, present_remains, remaining}
use Rattle.ring_place.proofs.Finishing.RemainingDevices.{want_remaining, wanted_left, wants_left}
use Rattle.ring_place.proofs.Rows.OneWrite.{get_set_other}

-- ---- crowds on the devices that remain

-- each seat of a row is empty or on a device that remains
abbrev pub AllRemain : List Device → List (Option ℕ) → Type 0
AllRemain devices row = (k id : ℕ) → slice_get row k ≡ Some (Some id) →
    has_present id devices ≡ true

set_none : (row : List (Option ℕ)) (k id : ℕ) → slice_get (others row k) k ≡ Some (Some id) → ⊥
set_none [] k id at = absurd (cc at)
set_none (seat ∷ row) zero id at = absurd (cc at)
set_none (seat ∷ row) (suc k) id at = set_none row k id at

pub others_remain : (devices : List Device) (row : List (Option ℕ)) (replica : ℕ) →
    AllRemain devices row → AllRemain devices (others row replica)
others_remain devices row replica all k id at = elim (cases_eq replica k) [
  | inl same ↦ absurd (set_none row k id (subst (λ r. slice_get (others row r) k ≡ Some (Some id))
      same at))
  | inr other ↦ all k id (sym (get_set_other row replica k None other) ∙ at)
]

tier_same : (test : Device → Device → Bool) (devices : List Device) (x y : ℕ) → Remains x devices →
    Remains y devices
    → pass_both test (device_by_id x (remaining devices)) (device_by_id y (remaining devices)) ≡
    pass_both
    test (device_by_id x devices) (device_by_id y devices)
tier_same test devices x y one other =
    ap (λ (d : Option Device). pass_both test d (device_by_id y (remaining devices)))
    (device_of_remaining x devices one)
    ∙ ap (λ (d : Option Device). pass_both test (device_by_id x devices) d)
    (device_of_remaining y devices other)

-- a device is as crowded beside the devices that remain as beside all
pub crowd_remaining : (devices : List Device) →
    IsStrictlyIncreasing (map (λ device. device.id) devices) → (row : List (Option ℕ)) →
    AllRemain devices row → (id : ℕ) → has_present id devices ≡ true
    → crowd (tiers_of (remaining devices)) row id ≡ crowd (tiers_of devices) row id
crowd_remaining devices rise row all id present =
    let here = present_remains devices rise id present in
    let same = λ (test : Device → Device → Bool). row_count_same
    (λ y. pass_both test (device_by_id id (remaining devices)) (device_by_id y (remaining devices)))
    (λ y. pass_both test (device_by_id id devices) (device_by_id y devices)) row
    (λ k y at. tier_same test devices id y here (present_remains devices rise y (all k y at))) in
    rw (same in_region, same in_zone, same on_server) refl

left_same : (old : RingRecord) (devices : List Device) → devices ≡ old.devices →
    (before to : Option ℕ) → has_left_from devices before to ≡ has_left old before to
left_same old devices same None to = refl
left_same old devices same (Some from) to = ap (λ (ds : List Device). has_left_from ds (Some from)
    to) same

and_false : (a b : Bool) → (a ≡ true → b ≡ false) → (a && b) ≡ false
and_false true b h = h refl
and_false false b h = refl

module _ (old next : RingRecord) (hour : ℕ) (left after : Load) (rows : List (List (Option ℕ)))
    (valid : IsValid old) (valid_next : IsValid next)
    (gathered : IsGathered old hour left rows) (placed : AllPlaced left after (rows_of old) rows
    (rows_of next)) (is_after : IsAfter old hour next) where
  g : Gathered
  g = gathered_in rows

  pub rest : IsRest old next
  rest = record {
    power = ap (λ (r : RingRecord). r.power) is_after.rest;
    replicas =
        ap (λ (r : RingRecord). r.replicas) is_after.rest;
    devices = is_after.devices;
  }

  partitions_same : partition_count next ≡ partition_count old
  partitions_same = ap (λ (n : ℕ). 2 ^ n) rest.power

  rise : IsStrictlyIncreasing (map (λ device. device.id) old.devices)
  rise = valid.devices.rise

  devices_after : after.devices ≡ old.devices
  devices_after = placed.fills.devices ∙ gathered.devices

  present_after : (id : ℕ) → has_present id old.devices ≡ true → has_present id after.devices ≡ true
  present_after id present = ap (has_present id) devices_after ∙ present

  -- ---- rows

  next_at : (p : ℕ) → p < partition_count old → row_at (rows_of next) p ≡ row_of next p
  next_at p lt = get_or-map-range_with_len (λ q. row_of next q) 0 (partition_count next) p p []
      (omega (arith, lt, partitions_same)) (omega arith)

  row_seated : (p : ℕ) → p < partition_count old → RowSeated after (row_of old p)
      (kept_row old (gathered_in rows) p) (row_of next p)
  row_seated p lt = subst (λ r. RowSeated after (row_of old p) (kept_row old (gathered_in rows) p)
      r) (next_at p lt) (row_put old hour left rows valid gathered after (rows_of next) placed p lt)

  next_get : (p r : ℕ) → IsSeat old p r → slice_get (row_of next p) r ≡ Some (seat next p r)
  next_get p r s = range_get (λ replica. seat next p replica) next.replicas r (let same =
      rest.replicas in let lt = s.replica_there in omega (arith, lt, same))

  -- ---- seated

  pub stay_same : (p r : ℕ) → IsSeat old p r → gathered_in rows p r ≡ false →
      seat next p r ≡ seat old p r
  stay_same p r s h =
      let on = stays_on old hour left rows valid gathered p r s h in
      let there = (row_seated p s.partition_there).kept r on.0 (is_kept old hour left rows valid
      gathered p r s h ∙ ap Some on.1) in
      same_Some (seat next p r) (Some on.0) (sym (next_get p r s) ∙ there) ∙ sym on.1

  may_take : (p r id : ℕ) → IsSeat old p r → MayTakeSeat after.devices (slice_get (row_of old p) r)
      id → MayTake old p r id
  may_take p r id s may = elim may [
    | inl opens ↦ inl (ap (has_open id) (sym devices_after) ∙ opens)
    | inr own ↦ inr (
      same_Some (seat old p r) (Some id)
          (sym (old_get old hour left rows valid gathered p r s) ∙ own.0),
      ap (has_present id) (sym devices_after) ∙ own.1,
    )
  ]

  is_taken : (p r : ℕ) → IsSeat old p r → gathered_in rows p r ≡ true → (id : ℕ) ×
      (seat next p r ≡ Some id) × MayTake old p r id
  is_taken p r s h =
      let put = ((row_seated p s.partition_there).placed r (is_up old hour left rows valid gathered
      p r s h)).seated in (
        put.0,
        same_Some (seat next p r) (Some put.0) (sym (next_get p r s) ∙ put.1),
        may_take p r put.0 s put.2,
      )

  pub seated : IsSeated old (gathered_in rows) next
  seated = record {
    stay = stay_same;
    taken = is_taken;
    distinct = λ p r other id s also at bt.
        one_seat id (row_of next p) r other ((row_seated p s.partition_there).distinct id)
        (next_get p r s ∙ ap Some at) (next_get p other also ∙ ap Some bt);
  }

  -- each seat is on a device that remains
  seat_there : (p r : ℕ) → IsSeat old p r → (id : ℕ) × (seat next p r ≡ Some id) ×
      (has_present id old.devices ≡ true)
  seat_there p r s =
      let put = put_there old hour left rows valid gathered after (rows_of next) placed p r s in (
        put.0,
        same_Some (seat next p r) (Some put.0) (sym (next_get p r s) ∙ ap
            (λ row. slice_get row r) (sym (next_at p s.partition_there)) ∙ put.1),
        put.2,
      )

  next_remain : (p : ℕ) → p < partition_count old → AllRemain old.devices (row_of next p)
  next_remain p lt k id at =
      let within = slice_get_within (row_of next p) k (Some id) at in
      let long = length-map-range_with_len (λ replica. seat next p replica) 0 next.replicas in
      let same = rest.replicas in
      let s : IsSeat old p k = record {
        partition_there = lt;
        replica_there =
            omega (arith, within, long, same);
      } in
      let there = seat_there p k s in
      let is : there.0 ≡ id = same_Some there.0 id (sym there.1 ∙ same_Some (seat next p k)
      (Some id) (sym (next_get p k s) ∙ at)) in
      subst (λ x. has_present x old.devices ≡ true) is there.2

  -- ---- room

  known_left : (id : ℕ) → has_present id old.devices ≡ true → has_device id left.devices ≡ true
  known_left id present = ap (has_device id) gathered.devices ∙ present_known old.devices id present

  assigned : is_assigned next ≡ true
  assigned =
      let s : IsSeat old 0 0 = record {
        partition_there = pow_pos old.power;
        replica_there =
            (let least = valid.replicas.0 in omega (arith, least));
      } in
      let there = seat_there 0 0 s in
      let within = slice_get_within next.seats (0 * next.replicas + 0) there.0 there.1 in
      some (length next.seats) (omega (arith, within))
    where
      some : (n : ℕ) → 0 < n → nat_lt 0 n ≡ true
      some n h = grind (arith, nat_tests)

  kept_rows : (id : ℕ) → have_on id rows ≡ kept_count old (gathered_in rows) id
  kept_rows id = ap (sum_by (seats_on id)) gathered.rows_are ∙ sum_map (seats_on id)
      (λ p. kept_row old (gathered_in rows) p) (range_with_len 0 (partition_count old))

  pub have_same : (id : ℕ) → has_present id old.devices ≡ true → have next id ≡ have_in after id
  have_same id present =
      let all = have_is_rows next id valid_next assigned in
      let counts = placed.counts id (known_left id present) in
      let before = gathered.counts id (present_known old.devices id present) in
      omega (arith, all, counts, before, kept_rows id)

  want_left : (id : ℕ) → want_in after id ≡ want_of old left.wanted id
  want_left id = want_fills left after placed.fills id ∙ ap (λ (ds : List Device). slice_index
      left.wanted (place_of id ds)) gathered.devices

  pub wants : List ℕ
  wants = wants_left old.devices left.wanted

  pub want_same : (id : ℕ) → has_present id old.devices ≡ true →
      want_of next (wants_left old.devices left.wanted) id ≡ want_in after id
  want_same id present =
      ap (λ (ds : List Device). slice_index (wants_left old.devices left.wanted) (place_of id ds))
      rest.devices
      ∙ want_remaining id old.devices left.wanted gathered.wanted.shares.count
      (present_remains old.devices rise id present) ∙ sym (want_left id)

  open_same : (id : ℕ) → has_open id next.devices ≡ has_open id after.devices
  open_same id = ap (has_open id) rest.devices ∙ open_remaining id old.devices ∙ sym
      (ap (has_open id) devices_after)

  room_same : (id : ℕ) → has_present id old.devices ≡ true →
      has_room next (wants_left old.devices left.wanted) id ≡ has_room_in after id
  room_same id present =
      ap (λ b. b && nat_lt (have next id) (want_of next (wants_left old.devices left.wanted) id))
      (open_same id)
      ∙ ap (λ n. has_open id after.devices &&
      nat_lt n (want_of next (wants_left old.devices left.wanted) id)) (have_same id present)
      ∙ ap (λ n. has_open id after.devices && nat_lt (have_in after id) n) (want_same id present)

  free_same : (p id : ℕ) → has_present id old.devices ≡ true →
      is_free next (wants_left old.devices left.wanted) p id ≡ is_free_in after (row_of next p) id
  free_same p id present = ap (λ b. b && is_outside (row_of next p) id) (room_same id present)

  crowd_same : (p r id : ℕ) → p < partition_count old → has_present id old.devices ≡ true →
      crowd_for next p r id ≡ crowd_in after (others (row_of next p) r) id
  crowd_same p r id lt present =
      ap (λ (ds : List Device). crowd (tiers_of ds) (others (row_of next p) r) id) rest.devices
      ∙ crowd_remaining old.devices rise (others (row_of next p) r) (others_remain old.devices
      (row_of next p) r (next_remain p lt)) id present
      ∙ ap (λ (ds : List Device). crowd (tiers_of ds) (others (row_of next p) r) id)
      (sym devices_after)

  listed_present : (k : ℕ) (d : Device) → k < length next.devices →
      has_present (get_or next.devices k d).id old.devices ≡ true
  listed_present k d lt = subst (λ (ds : List Device). k < length ds →
      has_present (get_or ds k d).id old.devices ≡ true) (sym rest.devices)
      (listed_remains old.devices k d) lt

  -- ---- settled

  pub settled : AreSettled old (gathered_in rows) next (wants_left old.devices left.wanted)
  settled p r id s up at =
      let there = seat_there p r s in
      let is : there.0 ≡ id = same_Some there.0 id (sym there.1 ∙ at) in
      let present : has_present id old.devices ≡ true =
      subst (λ x. has_present x old.devices ≡ true) is there.2 in
      let put = ((row_seated p s.partition_there).placed r (is_up old hour left rows valid gathered
      p r s up)).settled id (next_get p r s ∙ ap Some at) in
      list_any_none (λ device. is_free next (wants_left old.devices left.wanted) p device.id &&
      is_less (crowd_for next p r device.id) (crowd_for next p r id)) next.devices
      (λ k d lt.
      let x = (get_or next.devices k d).id in
      let there_x = listed_present k d lt in
      and_false (is_free next (wants_left old.devices left.wanted) p x)
      (is_less (crowd_for next p r x) (crowd_for next p r id))
      (λ free. ap (λ c. is_less c (crowd_for next p r id)) (crowd_same p r x s.partition_there
      there_x)
      ∙ ap (λ c. is_less (crowd_in after (others (row_of next p) r) x) c)
      (crowd_same p r id s.partition_there present)
      ∙ put x (sym (free_same p x there_x) ∙ free)))

  -- ---- within room

  free_open : (p id : ℕ) → is_free_in after (row_of next p) id ≡ true →
      has_open id old.devices ≡ true
  free_open p id free = ap (has_open id) (sym devices_after) ∙ room_open after id
      (free_room after (row_of next p) id free)

  free_any : (p : ℕ) → has_free_in after (row_of next p) ≡ has_free next (wants_left old.devices
      left.wanted) p
  free_any p =
      ap (λ (ds : List Device). list_any (λ device. is_free_in after (row_of next p) device.id) ds)
      devices_after
      ∙ sym (any_alike old.devices (is_free next (wants_left old.devices left.wanted) p)
      (is_free_in after (row_of next p)) (free_same p) (free_open p) (open_present old.devices))
      ∙ ap (λ (ds : List Device). list_any (λ device. is_free next (wants_left old.devices
      left.wanted) p device.id) ds) (sym rest.devices)

  takes_same : (id p r : ℕ) → IsSeat old p r → (b : Bool) → gathered_in rows p r ≡ b
      → draws after.devices (has_free_in after (row_of next p)) id (seat old p r) (if b then
      None else seat old p r) (seat next p r) ≡ takes_room old (gathered_in rows) next
      (wants_left old.devices left.wanted) id p r
  takes_same id p r s true h =
      ap (λ l. is_on (λ other. other == id) (seat next p r) &&
      (l || has_free_in after (row_of next p))) (left_same old after.devices devices_after
      (seat old p r) (seat next p r))
      ∙ ap (λ f. is_on (λ other. other == id) (seat next p r) &&
      (has_left old (seat old p r) (seat next p r) || f)) (free_any p)
      ∙ ap (λ b. (b && is_on (λ other. other == id) (seat next p r)) &&
      (has_left old (seat old p r) (seat next p r) ||
      has_free next (wants_left old.devices left.wanted) p)) (sym h)
  takes_same id p r s false h =
      let on = stays_on old hour left rows valid gathered p r s h in
      ap (λ up. draws after.devices (has_free_in after (row_of next p)) id (seat old p r) up
      (seat next p r)) on.1
      ∙ ap (λ b. (b && is_on (λ other. other == id) (seat next p r)) &&
      (has_left old (seat old p r) (seat next p r) ||
      has_free next (wants_left old.devices left.wanted) p)) (sym h)

  drawn_row : (id p : ℕ) → p < partition_count old
      → drawn_in after.devices (has_free_in after (row_of next p)) id (row_of old p)
      (kept_row old (gathered_in rows) p) (row_of next p) ≡ count_by
      (takes_room old (gathered_in rows) next (wants_left old.devices left.wanted) id p)
      (range_with_len 0 old.replicas)
  drawn_row id p lt =
      ap (λ (n : ℕ). drawn_in after.devices (has_free_in after (row_of next p)) id (row_of old p)
      (kept_row old (gathered_in rows) p) (map (λ replica. seat next p replica)
      (range_with_len 0 n))) rest.replicas
      ∙ drawn_row_is after.devices (has_free_in after (row_of next p)) id (λ r. seat old p r)
      (λ r. if gathered_in rows p r then None else seat old p r) (λ r. seat next p r)
      old.replicas
      ∙ count_same (λ r. draws after.devices (has_free_in after (row_of next p)) id (seat old p r)
      (if gathered_in rows p r then None else seat old p r) (seat next p r))
      (takes_room old (gathered_in rows) next (wants_left old.devices left.wanted) id p)
      old.replicas
      (λ r below. takes_same id p r (record { partition_there = lt; replica_there = below })
      (gathered_in rows p r) refl)

  drawn_all : (id : ℕ) → drawn after id (rows_of old) rows (rows_of next) ≡ count_seats old
      (takes_room old (gathered_in rows) next (wants_left old.devices left.wanted) id)
  drawn_all id =
      ap (λ (rs : List (List (Option ℕ))). drawn after id (rows_of old) rs (rows_of next))
      gathered.rows_are
      ∙ ap (λ (n : ℕ). drawn after id (rows_of old) (map (λ p. kept_row old (gathered_in rows) p)
      (range_with_len 0 (partition_count old))) (map (λ p. row_of next p) (range_with_len 0 n)))
      partitions_same
      ∙ drawn_is after id (λ p. row_of old p) (λ p. kept_row old (gathered_in rows) p)
      (λ p. row_of next p) (partition_count old)
      ∙ sum_same (λ p. drawn_in after.devices (has_free_in after (row_of next p)) id (row_of old p)
      (kept_row old (gathered_in rows) p) (row_of next p))
      (λ p. count_by (takes_room old (gathered_in rows) next (wants_left old.devices left.wanted) id
      p) (range_with_len 0 old.replicas)) (partition_count old) (drawn_row id)

  pub within_room : IsWithinRoom old (gathered_in rows) next (wants_left old.devices left.wanted)
  within_room id present =
      let few = placed.within_room id (known_left id present) in
      let before = gathered.counts id (present_known old.devices id present) in
      omega (arith, few, drawn_all id, want_same id present, before)

  -- ---- gain

  pub gain : IsGain old next (wants_left old.devices left.wanted)
  gain p r from to s at present bt ne = elim (cases_Bool (gathered_in rows p r)) [
    | inl up ↦
        let there = next_remain p s.partition_there r to (next_get p r s ∙ ap Some bt) in
        let one = crowd_same p r to s.partition_there there in
        let other = crowd_same p r from s.partition_there present in
        elim (((row_seated p s.partition_there).placed r (is_up old hour left rows valid gathered p
        r s up)).gain from to (old_get old hour left rows valid gathered p r s ∙ ap Some at)
        (present_after from present) (next_get p r s ∙ ap Some bt) ne) [
          | inl less ↦ inl (ap (λ c. is_less c (crowd_for next p r from)) one ∙ ap
              (λ c. is_less (crowd_in after (others (row_of next p) r) to) c) other ∙ less)
          | inr full ↦ inr (omega (arith, full, have_same from present, want_same from present))
        ]
    | inr kept ↦ absurd (ne (same_Some to from (sym bt ∙ stay_same p r s kept ∙ at)))
  ]

  pub is_rebalance : IsRebalance old hour next
  is_rebalance = record {
    gathered = gathered_in rows;
    wanted_before = left.wanted;
    wanted_after = wants_left old.devices left.wanted;
    are_before = gathered.wanted;
    are_after = wanted_left old next rest left.wanted gathered.wanted;
    lawful = gathered.lawful;
    reasons = gathered.reasons;
    whole = gathered.whole;
    seated = seated;
    settled = settled;
    within_room = within_room;
    gain = gain;
    after = is_after;
  }

  pub is_rebalance_apart : GivesApartFirst old hour left.wanted (gathered_in rows) →
      IsRebalanceApart old hour next
  unfolding is_rebalance
  is_rebalance_apart apart = record { is = is_rebalance; apart = apart }
