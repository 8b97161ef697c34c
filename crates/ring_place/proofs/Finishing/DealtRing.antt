-- A ring whose seats were all empty, once they are dealt.
use Rattle.std.proofs.Common.{◌≡◌, ◌==◌, ℕ, ◌+◌, ◌*◌, ◌^◌, ◌<◌, ◌≤◌, Bool, true, false, ◌&&◌, ◌||◌, List, []}
use Rattle.std.proofs.Common.{length, get_or, map, count_by, sum_by, cond, Some, None, refl, sym, ap}
use Rattle.std.proofs.Common.{subst, ◌∙◌, inl, inr, arith, slice_get}
use Rattle.std.specs.Prelude.{nat_lt, slice_index}
use Rattle.std.specs.List.{range_with_len}
use Rattle.std.specs.List.Sorted.{IsStrictlyIncreasing}
use Rattle.std.proofs.lemmas.Bool.{cases_Bool, eq-eqb}
use Rattle.std.proofs.lemmas.Bool.Decides.{nat_tests}
use Rattle.std.proofs.lemmas.Nat.{row_fits}
use Rattle.std.proofs.lemmas.List.Folds.{list_any_at, list_any_none}
use Rattle.std.proofs.lemmas.List.Sums.{get_or-le-sum_by, sum_by-le}
use Rattle.std.proofs.lemmas.Option.{get_or_from_slice_get, same_Some, slice_get-get_or, slice_get_within}
use Rattle.ring_words.specs.declared.device.Device.{Device}
use Rattle.ring_model.specs.Ring.{RingRecord, has_device, has_present, partition_count, seat}
use Rattle.ring_model.specs.Valid.{IsValid}
use Rattle.ring_share.specs.Crowd.{crowd_for, is_less, is_on, is_outside, row_of, rows_of, seats_on}
use Rattle.ring_share.specs.Room.{has_open, has_room, have, place_of, want_of}
use Rattle.ring_share.specs.Want.{AreWanted, is_open}
use Rattle.ring_share.proofs.Rows.{length-row_of, row_of_at}
use Rattle.ring_share.proofs.Standing.{found_device}
use Rattle.ring_room.proofs.Searching.DevicesAt.{open_at, place_stands}
use Rattle.ring_deal.specs.Deal.{AreDealt}
use Rattle.ring_place.specs.Apart.{IsRebalanceApart}
use Rattle.ring_place.specs.Inner.Finishing.{AreWhole}
use Rattle.ring_place.specs.Made.{row_at}
use Rattle.ring_place.specs.Rebalance.{Gathered, IsAfter, IsRebalance, IsSeat, count_seats, has_free, has_left}
use Rattle.ring_place.specs.Rebalance.{has_less_crowded, has_lost, is_free, is_lost, takes_room}
use Rattle.ring_place.proofs.Finishing.RemainingDevices.{IsRest, listed_remains, present_remains}
use Rattle.ring_place.proofs.Finishing.RemainingDevices.{want_remaining, wanted_left, wants_left}
use Rattle.ring_place.proofs.Placing.Filling.{present_known}
use Rattle.ring_place.proofs.Placing.Placeable.{few_on, open_present}
use Rattle.ring_place.proofs.Rows.IndexRanges.{range_get}
use Rattle.ring_place.proofs.Rows.RingSeats.{have_by_rows, length-rows_of, row_at-rows_of}

same_not_less : (n m : ℕ) → n ≡ m → nat_lt n m ≡ false
same_not_less n m same = grind (arith, nat_tests)

module _ (old : RingRecord) (valid : IsValid old) (wanted ss : List ℕ) (are : AreWanted old wanted)
    (empty : old.seats ≡ []) (dealt : AreDealt old.devices wanted old.power old.replicas ss) where
  abbrev pub full : RingRecord
  full = record old { seats = ss }

  rise : IsStrictlyIncreasing (map (λ device. device.id) old.devices)
  rise = valid.devices.rise

  pub valid_full : IsValid full
  valid_full = record {
    power = valid.power;
    replicas = valid.replicas;
    min_hours = valid.min_hours;
    next_id = valid.next_id;
    version = valid.version;
    devices = valid.devices;
    seats = record {
      whole = λ some. dealt.count;
      known = dealt.known;
      distinct = dealt.distinct;
    };
    moved = valid.moved;
    hours = valid.hours;
    published = valid.published;
  }

  -- each seat is on an open device
  open_on : (p r id : ℕ) → seat full p r ≡ Some id → has_open id old.devices ≡ true
  open_on p r id at =
      let place = p * old.replicas + r in
      let within = slice_get_within ss place id at in
      let got = get_or_from_slice_get ss place id 0 at in
      let known : has_device id old.devices ≡ true = ap (λ n. has_device n old.devices) (sym got)
      ∙ dealt.known place 0 within in
      let found = found_device old.devices id known in
      let s = found.stands in
      let count = dealt.as_wanted found.place s.device s.at in
      let least = get_or-le-sum_by (λ (x : ℕ). cond (x == s.device.id) 1 0) ss place 0 within in
      let one : ◌≡◌ {A = ℕ} (cond (get_or ss place 0 == s.device.id) 1 0) 1 =
      ap (λ b. cond b 1 0) (eq-eqb _ _ (got ∙ sym s.named)) in
      let opens : is_open s.device ≡ true = elim (cases_Bool (is_open s.device)) [
        | inl opened ↦ opened
        | inr shut ↦ (let none = are.shares.closed found.place s.device s.at shut in
            absurd (omega (arith, none, count, least, one)))
      ] in
      subst (λ n. has_open n old.devices ≡ true) s.named
      (open_at old.devices rise found.place s.device s.at ∙ opens)

  seat_there : (p r : ℕ) → IsSeat old p r → (id : ℕ) × (seat full p r ≡ Some id) ×
      (has_open id old.devices ≡ true)
  seat_there p r s =
      let place = p * old.replicas + r in
      let lt : place < length ss = (let fits = row_fits p old.replicas (partition_count old) old.replicas
      s.partition_there (omega arith) in let count = dealt.count in let lt = s.replica_there in
      omega (arith, fits, count, lt)) in
      let at = slice_get-get_or ss place 0 lt in
      (get_or ss place 0, at, open_on p r (get_or ss place 0) at)

  full_get : (p r : ℕ) → r < old.replicas → slice_get (row_of full p) r ≡ Some (seat full p r)
  full_get p r lt = range_get (λ replica. seat full p replica) old.replicas r lt

  pub whole : AreWhole old (rows_of full)
  whole = record {
    as_many = length-rows_of full;
    long = λ p lt. ap length (row_at-rows_of full p lt) ∙ length-row_of full p;
    taken = λ p r s.
        let there = seat_there p r s in (
          there.0,
          ap (λ row. slice_get row r) (row_at-rows_of full p s.partition_there)
              ∙ full_get p r s.replica_there ∙ ap Some there.1,
          open_present old.devices there.0 there.2,
        );
    distinct = λ p id lt. subst (λ row. seats_on id row ≤ 1) (sym (row_at-rows_of full p lt))
        (few_on id (row_of full p) (λ i j at bt.
        let long = length-row_of full p in
        let one : i < old.replicas = (let within = slice_get_within (row_of full p) i (Some id) at in
        omega (arith, within, long)) in
        let other : j < old.replicas = (let within = slice_get_within (row_of full p) j (Some id) bt in
        omega (arith, within, long)) in
        dealt.distinct p i j id one other
        (same_Some (seat full p i) (Some id) (sym (full_get p i one) ∙ at))
        (same_Some (seat full p j) (Some id) (sym (full_get p j other) ∙ bt))));
  }

  -- ---- before

  none_on : (p r : ℕ) → seat old p r ≡ None
  none_on p r = ap (λ s. slice_get s (p * old.replicas + r)) empty

  lost_there : (p r : ℕ) → IsSeat old p r → has_lost old p ≡ true
  lost_there p r s = list_any_at (is_lost old) (row_of old p) r None (let long = length-row_of old p
      in let lt = s.replica_there in omega (arith, lt, long))
      (ap (is_lost old) (row_of_at old p r s.replica_there ∙ none_on p r))

  not_kept : (p r : ℕ) → IsSeat old p r → has_lost old p ≡ false → ⊥
  not_kept p r s kept = (let lost = lost_there p r s in cc (lost, kept))

  not_on : (p r id : ℕ) → seat old p r ≡ Some id → ⊥
  not_on p r id at = (let none = none_on p r in cc (none, at))

  -- ---- the ring that comes of it

  module _ (next : RingRecord) (hour : ℕ) (valid_next : IsValid next) (rows_same : rows_of next ≡ rows_of
      full) (is_after : IsAfter old hour next) where
    all : Gathered
    all = λ p r. true

    left : List ℕ
    left = wants_left old.devices wanted

    rest : IsRest old next
    rest = record {
      power = ap (λ (r : RingRecord). r.power) is_after.rest;
      replicas = ap (λ (r : RingRecord). r.replicas) is_after.rest;
      devices = is_after.devices;
    }

    have_full : (id : ℕ) → have next id ≡ have full id
    have_full id = have_by_rows next id valid_next ∙ ap (sum_by (seats_on id)) rows_same
        ∙ sym (have_by_rows full id valid_full)

    want_same : (id : ℕ) → has_present id old.devices ≡ true →
        want_of next (wants_left old.devices wanted) id ≡ slice_index wanted (place_of id old.devices)
    want_same id present =
        ap (λ (ds : List Device). slice_index (wants_left old.devices wanted) (place_of id ds)) rest.devices
        ∙ want_remaining id old.devices wanted are.shares.count (present_remains old.devices rise id present)

    -- each device has what it wants
    has_all : (id : ℕ) → has_present id old.devices ≡ true →
        have next id ≡ want_of next (wants_left old.devices wanted) id
    has_all id present =
        let found = found_device old.devices id (present_known old.devices id present) in
        let s = found.stands in
        let count = dealt.as_wanted found.place s.device s.at in
        have_full id ∙ ap (λ n. count_by (λ x. x == n) ss) (sym s.named) ∙ count
        ∙ ap (slice_index wanted) (sym (place_stands old.devices rise id found.place s))
        ∙ sym (want_same id present)

    no_room : (id : ℕ) → has_present id old.devices ≡ true →
        has_room next (wants_left old.devices wanted) id ≡ false
    no_room id present = ap (λ b. has_open id next.devices && b) (same_not_less _ _ (has_all id present))
        ∙ and_no (has_open id next.devices)
      where
        and_no : (b : Bool) → (b && false) ≡ false
        and_no true = refl
        and_no false = refl

    none_free : (p id : ℕ) → has_present id old.devices ≡ true →
        is_free next (wants_left old.devices wanted) p id ≡ false
    none_free p id present = ap (λ b. b && is_outside (row_of next p) id) (no_room id present)

    listed_present : (k : ℕ) (d : Device) → k < length next.devices →
        has_present (get_or next.devices k d).id old.devices ≡ true
    listed_present k d lt = subst (λ (ds : List Device). k < length ds →
        has_present (get_or ds k d).id old.devices ≡ true) (sym rest.devices)
        (listed_remains old.devices k d) lt

    free_nowhere : (p : ℕ) → has_free next (wants_left old.devices wanted) p ≡ false
    free_nowhere p = list_any_none (λ device. is_free next (wants_left old.devices wanted) p device.id)
        next.devices (λ k d lt. none_free p (get_or next.devices k d).id (listed_present k d lt))

    less_nowhere : (p r id : ℕ) → has_less_crowded next (wants_left old.devices wanted) p r id ≡ false
    less_nowhere p r id = list_any_none (λ device. is_free next (wants_left old.devices wanted) p device.id
        && is_less (crowd_for next p r device.id) (crowd_for next p r id)) next.devices
        (λ k d lt. ap (λ b. b && is_less (crowd_for next p r (get_or next.devices k d).id)
        (crowd_for next p r id)) (none_free p (get_or next.devices k d).id (listed_present k d lt)))

    next_row : (p : ℕ) → p < partition_count old → row_of next p ≡ row_of full p
    next_row p lt =
        let same : partition_count next ≡ partition_count old = ap (λ (n : ℕ). 2 ^ n) rest.power in
        sym (row_at-rows_of next p (omega (arith, lt, same))) ∙ ap (λ rows. row_at rows p) rows_same
        ∙ row_at-rows_of full p lt

    next_seat : (p r : ℕ) → IsSeat old p r → seat next p r ≡ seat full p r
    next_seat p r s =
        let few : r < next.replicas = (let same = rest.replicas in let lt = s.replica_there in
        omega (arith, same, lt)) in
        same_Some (seat next p r) (seat full p r)
        (sym (range_get (λ replica. seat next p replica) next.replicas r few)
        ∙ ap (λ row. slice_get row r) (next_row p s.partition_there) ∙ full_get p r s.replica_there)

    takes_none : (id p r : ℕ) → takes_room old (λ p r. true) next (wants_left old.devices wanted) id p r ≡
        false
    takes_none id p r =
        ap (λ before. is_on (λ other. other == id) (seat next p r) && (has_left old before (seat next p r)
        || has_free next (wants_left old.devices wanted) p)) (none_on p r)
        ∙ ap (λ b. is_on (λ other. other == id) (seat next p r) && b) (free_nowhere p)
        ∙ and_no (is_on (λ other. other == id) (seat next p r))
      where
        and_no : (b : Bool) → (b && false) ≡ false
        and_no true = refl
        and_no false = refl

    none_in_row : (id p : ℕ) → count_by (takes_room old (λ p r. true) next
        (wants_left old.devices wanted) id p) (range_with_len 0 old.replicas) ≤ 0
    none_in_row id p =
        let none = sum_by-le (λ r. cond (takes_room old (λ p r. true) next (wants_left old.devices wanted)
        id p r) 1 0) 0 (range_with_len 0 old.replicas) (λ k d lt. (let zero : ◌≡◌ {A = ℕ}
        (cond (takes_room old (λ p r. true) next (wants_left old.devices wanted) id p
        (get_or (range_with_len 0 old.replicas) k d)) 1 0) 0 = ap (λ b. cond b 1 0)
        (takes_none id p (get_or (range_with_len 0 old.replicas) k d)) in omega (arith, zero))) in
        omega (arith, none)

    none_taken : (id : ℕ) → count_seats old (takes_room old (λ p r. true) next
        (wants_left old.devices wanted) id) ≤ 0
    none_taken id =
        let none = sum_by-le (λ p. count_by (takes_room old (λ p r. true) next
        (wants_left old.devices wanted) id p) (range_with_len 0 old.replicas)) 0
        (range_with_len 0 (partition_count old)) (λ k d lt. none_in_row id
        (get_or (range_with_len 0 (partition_count old)) k d)) in
        omega (arith, none)

    pub is_dealt_rebalance : IsRebalance old hour next
    is_dealt_rebalance = record {
      gathered = λ p r. true;
      wanted_before = wanted;
      wanted_after = wants_left old.devices wanted;
      are_before = are;
      are_after = wanted_left old next rest wanted are;
      lawful = record {
        lost = λ p r s lost. refl;
        only_lost = λ p r s lost gathered. ap (is_lost old) (none_on p r);
        one = λ p r other s also kept. absurd (not_kept p r s kept);
        unlocked = λ p r s kept. absurd (not_kept p r s kept);
      };
      reasons = λ p r id s gathered at. absurd (not_on p r id at);
      whole = record {
        crowded = λ p r id s is_left at. absurd (not_on p r id at);
        surplus = λ p r id s is_left at. absurd (not_on p r id at);
      };
      seated = record {
        stay = λ p r s kept. absurd (cc kept);
        taken = λ p r s gathered. (let there = seat_there p r s in
            (there.0, next_seat p r s ∙ there.1, inl there.2));
        distinct = λ p r other id s also at bt. dealt.distinct p r other id s.replica_there
            also.replica_there (sym (next_seat p r s) ∙ at) (sym (next_seat p other also) ∙ bt);
      };
      settled = λ p r id s gathered at. less_nowhere p r id;
      within_room = λ id present. (let none = none_taken id in omega (arith, none));
      gain = λ p r from to s at. absurd (not_on p r from at);
      after = is_after;
    }

    pub is_dealt_rebalance_apart : IsRebalanceApart old hour next
    unfolding is_dealt_rebalance
    is_dealt_rebalance_apart = record {
      is = is_dealt_rebalance;
      apart = λ p r id s kept. absurd (not_kept p r s kept);
    }
