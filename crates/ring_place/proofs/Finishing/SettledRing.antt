-- A ring of which nothing is gathered, and the ring that comes of it.
use Rattle.std.proofs.Common.{◌≡◌, ℕ, ◌+◌, ◌*◌, ◌^◌, ◌<◌, ◌≤◌, Bool, true, false, not, ◌&&◌, List}
use Rattle.std.proofs.Common.{length, get_or, count_by, Option, Some, refl, sym, ap}
use Rattle.std.proofs.Common.{subst, ◌∙◌, arith, slice_get, ⊎_elim}
use Rattle.std.specs.Prelude.{nat_lt}
use Rattle.std.specs.List.{list_any, range_with_len}
use Rattle.std.proofs.lemmas.Bool.{cases_Bool}
use Rattle.std.proofs.lemmas.Bool.Decides.{nat_tests}
use Rattle.std.proofs.lemmas.Nat.{row_fits}
use Rattle.std.proofs.lemmas.List.Folds.{list_any_at, list_any_none}
use Rattle.std.proofs.lemmas.List.Sums.{sum_by-le}
use Rattle.std.proofs.lemmas.Option.{get_or_from_slice_get, same_Some, slice_get-get_or, slice_get_within}
use Rattle.ring_words.specs.declared.device.Device.{Device}
use Rattle.ring_model.specs.Ring.{RingRecord, has_device, has_present, is_assigned, partition_count, seat}
use Rattle.ring_model.specs.Valid.{IsValid}
use Rattle.ring_share.specs.Crowd.{is_less, others, row_of, rows_of, seats_on}
use Rattle.ring_share.proofs.Rows.{length-row_of}
use Rattle.ring_share.proofs.Standing.{found_device}
use Rattle.ring_room.specs.Load.{Load, crowd_in, is_free_in}
use Rattle.ring_room.specs.Search.{roomy_places}
use Rattle.ring_room.proofs.Searching.DevicesAt.{present_at}
use Rattle.ring_place.specs.Apart.{IsRebalanceApart}
use Rattle.ring_place.specs.Inner.Finishing.{AreRebalanced, AreWhole, IsNotDealt}
use Rattle.ring_place.specs.Inner.Gathering.{IsRoomOf}
use Rattle.ring_place.specs.Made.{is_settled, load_of, row_at}
use Rattle.ring_place.specs.Rebalance.{IsAfter, IsRebalance, IsSeat, count_seats, has_free, has_less_crowded}
use Rattle.ring_place.specs.Rebalance.{is_lost, takes_room}
use Rattle.ring_place.proofs.Finishing.RemainingDevices.{IsRest, wanted_left, wants_left}
use Rattle.ring_place.proofs.Gathering.ByName.{load_is}
use Rattle.ring_place.proofs.Gathering.GatheredSeats.{crowded_same, has_free_same}
use Rattle.ring_place.proofs.Placing.Placeable.{few_on}
use Rattle.ring_place.proofs.Rows.IndexRanges.{range_get}
use Rattle.ring_place.proofs.Rows.RingSeats.{length-rows_of, row_at-rows_of, seat_known}
use Rattle.ring_place.proofs.Seeded.{rebalanced_settled}

module _ (ring : RingRecord) (was : Load) (valid : IsValid ring) (is : IsRoomOf ring was)
    (assigned : is_assigned ring ≡ true)
    (remain : list_any (λ device. device.removed) ring.devices ≡ false)
    (none : (row : List (Option ℕ)) (id : ℕ) → is_free_in was row id ≡ false) where
  some_seats : (n : ℕ) → nat_lt 0 n ≡ true → 0 < n
  some_seats n h = grind (arith, nat_tests)

  -- each device remains
  known_remain : (id : ℕ) → has_device id ring.devices ≡ true → has_present id ring.devices ≡ true
  known_remain id known =
      let found = found_device ring.devices id known in
      let s = found.stands in
      let within = slice_get_within ring.devices found.place s.device s.at in
      let stays : s.device.removed ≡ false = ⊎_elim
      (λ gone. absurd (let some = list_any_at (λ (device : Device). device.removed) ring.devices found.place
      s.device within (ap (λ (device : Device). device.removed) (get_or_from_slice_get ring.devices found.place
      s.device s.device s.at) ∙ gone) in cc (some, remain)))
      (λ stays. stays)
      (cases_Bool s.device.removed) in
      subst (λ n. has_present n ring.devices ≡ true) s.named
      (present_at ring.devices valid.devices.rise found.place s.device s.at ∙ ap not stays)

  seat_there : (p r : ℕ) → IsSeat ring p r → (id : ℕ) × (seat ring p r ≡ Some id) ×
      (has_present id ring.devices ≡ true)
  seat_there p r s =
      let place = p * ring.replicas + r in
      let count = valid.seats.whole (some_seats (length ring.seats) assigned) in
      let lt : place < length ring.seats = (let fits = row_fits p ring.replicas (partition_count ring)
      ring.replicas s.partition_there (omega arith) in let lt = s.replica_there in
      omega (arith, fits, count, lt)) in
      let at = slice_get-get_or ring.seats place 0 lt in (
        get_or ring.seats place 0,
        at,
        known_remain (get_or ring.seats place 0)
            (seat_known ring valid p r (get_or ring.seats place 0) at),
      )

  get_seat : (p r : ℕ) → r < ring.replicas → slice_get (row_of ring p) r ≡ Some (seat ring p r)
  get_seat p r lt = range_get (λ replica. seat ring p replica) ring.replicas r lt

  pub whole : AreWhole ring (rows_of ring)
  whole = record {
    as_many = length-rows_of ring;
    long = λ p lt. ap length (row_at-rows_of ring p lt) ∙ length-row_of ring p;
    taken = λ p r s.
        let there = seat_there p r s in (
          there.0,
          ap (λ row. slice_get row r) (row_at-rows_of ring p s.partition_there)
              ∙ get_seat p r s.replica_there ∙ ap Some there.1,
          there.2,
        );
    distinct = λ p id lt. subst (λ row. seats_on id row ≤ 1) (sym (row_at-rows_of ring p lt))
        (few_on id (row_of ring p) (λ i j at bt.
        let long = length-row_of ring p in
        let one : i < ring.replicas = (let within = slice_get_within (row_of ring p) i (Some id) at in
        omega (arith, within, long)) in
        let other : j < ring.replicas = (let within = slice_get_within (row_of ring p) j (Some id) bt in
        omega (arith, within, long)) in
        valid.seats.distinct p i j id one other
        (same_Some (seat ring p i) (Some id) (sym (get_seat p i one) ∙ at))
        (same_Some (seat ring p j) (Some id) (sym (get_seat p j other) ∙ bt))));
  }

  none_lost : (p r : ℕ) → IsSeat ring p r → is_lost ring (seat ring p r) ≡ true → ⊥
  none_lost p r s lost =
      let there = seat_there p r s in
      let stays : is_lost ring (seat ring p r) ≡ false = ap (is_lost ring) there.1 ∙ ap not there.2 in
      cc (lost, stays)

  free_nowhere : (p : ℕ) → has_free ring was.wanted p ≡ false
  free_nowhere p = sym (has_free_same ring was was.wanted is.devices refl is.counts p)
      ∙ list_any_none (λ device. is_free_in was (row_of ring p) device.id) was.devices
      (λ k d lt. none (row_of ring p) (get_or was.devices k d).id)

  crowded_nowhere : (p r id : ℕ) → has_less_crowded ring was.wanted p r id ≡ false
  crowded_nowhere p r id = sym (crowded_same ring was was.wanted is.devices refl is.counts p r id)
      ∙ list_any_none (λ device. is_free_in was (row_of ring p) device.id && is_less (crowd_in was
      (others (row_of ring p) r) device.id) (crowd_in was (others (row_of ring p) r) id)) was.devices
      (λ k d lt. ap (λ b. b && is_less (crowd_in was (others (row_of ring p) r) (get_or was.devices k d).id)
      (crowd_in was (others (row_of ring p) r) id)) (none (row_of ring p) (get_or was.devices k d).id))

  module _ (next : RingRecord) (hour : ℕ) (valid_next : IsValid next) (rows_same : rows_of next ≡ rows_of
      ring) (is_after : IsAfter ring hour next) where
    rest : IsRest ring next
    rest = record {
      power = ap (λ (r : RingRecord). r.power) is_after.rest;
      replicas = ap (λ (r : RingRecord). r.replicas) is_after.rest;
      devices = is_after.devices;
    }

    next_seat : (p r : ℕ) → IsSeat ring p r → seat next p r ≡ seat ring p r
    next_seat p r s =
        let same : partition_count next ≡ partition_count ring = ap (λ (n : ℕ). 2 ^ n) rest.power in
        let few : r < next.replicas = (let alike = rest.replicas in let lt = s.replica_there in
        omega (arith, alike, lt)) in
        let row : row_of next p ≡ row_of ring p = sym (row_at-rows_of next p (let lt = s.partition_there in
        omega (arith, lt, same))) ∙ ap (λ rows. row_at rows p) rows_same
        ∙ row_at-rows_of ring p s.partition_there in
        same_Some (seat next p r) (seat ring p r)
        (sym (range_get (λ replica. seat next p replica) next.replicas r few)
        ∙ ap (λ row. slice_get row r) row ∙ get_seat p r s.replica_there)

    none_taken : (id : ℕ) → count_seats ring (takes_room ring (λ p r. false) next
        (wants_left ring.devices was.wanted) id) ≤ 0
    none_taken id =
        let all = sum_by-le (λ p. count_by (takes_room ring (λ p r. false) next
        (wants_left ring.devices was.wanted) id p) (range_with_len 0 ring.replicas)) 0
        (range_with_len 0 (partition_count ring)) (λ k d lt.
        (let row = sum_by-le (λ (r : ℕ). 0) 0 (range_with_len 0 ring.replicas) (λ j e below. omega arith) in
        omega (arith, row))) in
        omega (arith, all)

    pub is_settled_rebalance : IsRebalance ring hour next
    is_settled_rebalance = record {
      gathered = λ p r. false;
      wanted_before = was.wanted;
      wanted_after = wants_left ring.devices was.wanted;
      are_before = is.wanted;
      are_after = wanted_left ring next rest was.wanted is.wanted;
      lawful = record {
        lost = λ p r s lost. absurd (none_lost p r s lost);
        only_lost = λ p r s lost gathered. absurd (cc gathered);
        one = λ p r other s also kept gathered. absurd (cc gathered);
        unlocked = λ p r s kept gathered. absurd (cc gathered);
      };
      reasons = λ p r id s gathered at. absurd (cc gathered);
      whole = record {
        crowded = λ p r id s is_left at. crowded_nowhere p r id;
        surplus = λ p r id s is_left at free. absurd (let shut = free_nowhere p in cc (shut, free));
      };
      seated = record {
        stay = λ p r s kept. next_seat p r s;
        taken = λ p r s gathered. absurd (cc gathered);
        distinct = λ p r other id s also at bt. valid.seats.distinct p r other id s.replica_there
            also.replica_there (sym (next_seat p r s) ∙ at) (sym (next_seat p other also) ∙ bt);
      };
      settled = λ p r id s gathered at. absurd (cc gathered);
      within_room = λ id present. (let few = none_taken id in omega (arith, few));
      gain = λ p r from to s at present bt moved. absurd (moved (same_Some to from
          (sym bt ∙ next_seat p r s ∙ at)));
      after = is_after;
    }

    pub is_settled_apart : IsRebalanceApart ring hour next
    unfolding is_settled_rebalance
    is_settled_apart = record {
      is = is_settled_rebalance;
      apart = λ p r id s kept gathered. absurd (cc gathered);
    }

  -- the seats stay
  pub settled_rebalanced : IsNotDealt ring → is_settled ring was.wanted ≡ true → (hour seed : ℕ) →
      AreRebalanced ring hour seed (rows_of ring)
  settled_rebalanced not_dealt rests hour seed = record {
    are_whole = whole;
    apart = λ next valid_next rows after. is_settled_apart next hour valid_next rows after;
    wanted = was.wanted;
    are = is.wanted;
    by_name = rebalanced_settled ring was.wanted hour seed (not_dealt was.wanted is.wanted) rests;
  }

-- what tells that nothing is gathered
pub settled_by : (ring : RingRecord) (was : Load) → IsRoomOf ring was → (roomy assigned gone : Bool) →
    roomy ≡ nat_lt 0 (length (roomy_places was)) → assigned ≡ is_assigned ring →
    gone ≡ list_any (λ device. device.removed) ring.devices → assigned ≡ true → gone ≡ false →
    not roomy ≡ is_settled ring was.wanted
settled_by ring was is roomy assigned gone room has marked here none =
    let same = load_is ring was is.load is.devices is.counts in
    ap not (room ∙ ap (λ load. nat_lt 0 (length (roomy_places load))) same)
    ∙ sym (ap (λ b. b && (not (list_any (λ device. device.removed) ring.devices) &&
    not (nat_lt 0 (length (roomy_places (load_of ring was.wanted)))))) (sym has ∙ here)
    ∙ ap (λ b. not b && not (nat_lt 0 (length (roomy_places (load_of ring was.wanted))))) (sym marked ∙ none))
