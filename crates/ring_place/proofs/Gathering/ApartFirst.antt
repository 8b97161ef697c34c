-- Seats that can go apart are gathered first.
use Rattle.std.proofs.Common.{◌≡◌, ◌∙◌, ◌==◌, ℕ, ◌<◌, ◌≤◌, Bool, true, false, ◌&&◌, cond, List}
use Rattle.std.proofs.Common.{length, get_or, Option, Some, None, refl, sym, ap, subst}
use Rattle.std.proofs.Common.{arith, ◌≢◌, [], ⊎_elim}
use Rattle.std.proofs.lemmas.List.Sums.{sum_by-set}
use Rattle.std.specs.Prelude.{slice_get, nat_lt}
use Rattle.std.specs.List.{list_any}
use Rattle.std.proofs.lemmas.Bool.{and_parts, and_right, ne_eqb}
use Rattle.std.proofs.lemmas.Bool.Decides.{nat_tests}
use Rattle.std.proofs.lemmas.List.{get_or-set_same}
use Rattle.std.proofs.lemmas.List.Folds.{Any-from_list_any}
use Rattle.std.proofs.lemmas.Option.{slice_get_within}
use Rattle.ring_model.specs.Ring.{RingRecord, has_device, partition_count, seat}
use Rattle.ring_model.specs.Valid.{IsValid}
use Rattle.ring_words.specs.declared.device.Device.{Device}
use Rattle.ring_share.specs.Crowd.{crowd_for, is_less, others, row_of, rows_of, seats_on}
use Rattle.ring_share.specs.Room.{has_open, have}
use Rattle.ring_share.proofs.Rows.{length-row_of, row_of_at}
use Rattle.ring_room.specs.Free.{is_crowded_in}
use Rattle.ring_room.specs.Load.{Load, crowd_in, has_room_in, have_in, is_free_in, want_in}
use Rattle.ring_room.specs.Rows.{is_empty}
use Rattle.ring_room.proofs.Searching.BestSoFar.{not_less_after}
use Rattle.ring_room.proofs.Searching.LessCrowded.{one_free, one_here, seats_with}
use Rattle.ring_place.specs.Apart.{AreMoreCrowded, GivesApartFirst}
use Rattle.ring_place.specs.Rebalance.{has_less_crowded, has_lost, is_free, is_locked}
use Rattle.ring_place.specs.Inner.Gathering.{CanGoApart, IsFilled, Lifts, gathered_in}
use Rattle.ring_place.specs.Made.{is_lost_in}
use Rattle.ring_place.specs.Made.{row_at}
use Rattle.ring_place.proofs.Gathering.BothPasses.{IsBoth, both_kept, both_length}
use Rattle.ring_place.proofs.Gathering.GatheredSeats.{crowded_same, free_same, has_lost_same}
use Rattle.ring_place.proofs.Gathering.GatheredSeats.{not_empty, one_lifted, seat_in_row}
use Rattle.ring_place.proofs.Gathering.LiftedFor.{ForApart, ForCrowd, ForDrained, ForLost, ForNone}
use Rattle.ring_place.proofs.Gathering.LiftedFor.{ForSurplus}
use Rattle.ring_place.proofs.Gathering.LiftedFor.{IsLiftedFor}
use Rattle.ring_place.proofs.Gathering.SeatSums.{kept_fewer, lifts_less, sum_less}
use Rattle.ring_place.proofs.Rows.LiftedSeats.{same_device, seat_at}
use Rattle.ring_place.proofs.Rows.RingSeats.{have_by_rows, length-rows_of, row_at-rows_of}

-- the other devices are outside a partition's other seats as they are outside the partition
free_others : (load : Load) (row : List (Option ℕ)) (replica id other : ℕ) →
    slice_get row replica ≡ Some (Some id) → is_free_in load row other ≡ true →
    is_free_in load (others row replica) other ≡ true
free_others load row replica id other at free =
    let counted = seats_with row replica id other at in
    let parts = and_parts (has_room_in load other) (seats_on other row == 0) free in
    let none : seats_on other (others row replica) ≡ 0 = grind (arith, nat_tests) in
    rw (parts.0, none) refl

free_other : (load : Load) (row : List (Option ℕ)) (replica id other : ℕ) →
    slice_get row replica ≡ Some (Some id) → other ≢ id →
    is_free_in load (others row replica) other ≡ true → is_free_in load row other ≡ true
free_other load row replica id other at apart free =
    let counted = seats_with row replica id other at in
    let none : ◌≡◌ {A = ℕ} (cond (id == other) 1 0) 0 = rw (ne_eqb id other (λ e. apart (sym e)))
    refl in
    let seats : seats_on other row ≡ seats_on other (others row replica) =
    omega (arith, counted, none) in
    ap (λ (n : ℕ). has_room_in load other && (n == 0)) seats ∙ free

full_has_none : (load : Load) (id : ℕ) → want_in load id ≤ have_in load id →
    has_room_in load id ≡ false
full_has_none load id full = and_right (has_open id load.devices) _ (never (have_in load id)
    (want_in load id) full)
  where
    never : (have want : ℕ) → want ≤ have → nat_lt have want ≡ false
    never have want le = grind (arith, nat_tests)

module _ (ring : RingRecord) (hour : ℕ) (was between left : Load) (wanted : List ℕ)
    (rows : List (List (Option ℕ))) (valid : IsValid ring) (devices : was.devices ≡ ring.devices)
    (wants : was.wanted ≡ wanted)
    (counts : (id : ℕ) → has_device id ring.devices ≡ true → have_in was id ≡ have ring id)
    (filled : IsFilled left ring.devices wanted rows) (many : length rows ≡ partition_count ring)
    (known : (partition replica id : ℕ) → seat ring partition replica ≡ Some id →
    has_device id ring.devices ≡ true)
    (both : (partition : ℕ) → partition < partition_count ring →
    IsBoth was left (is_locked ring hour partition) (row_of ring partition)
    (row_at rows partition))
    (reasons : (partition : ℕ) → partition < partition_count ring →
    IsLiftedFor was between left (is_locked ring hour partition) (row_of ring partition)
    (row_at rows partition))
    (fewer : (id : ℕ) → has_device id ring.devices ≡ true → have_in left id ≤ have_in between id)
    (same_wants : (id : ℕ) → want_in between id ≡ want_in was id) where
  crowd_same : (partition replica id : ℕ) → crowd_in was (others (row_of ring partition) replica) id
      ≡ crowd_for ring partition replica id
  crowd_same partition replica id = rw devices refl

  more_same : (partition replica id to : ℕ) →
      is_less (crowd_in was (others (row_of ring partition) replica) id)
      (crowd_in was (others (row_of ring partition) replica) to)
      ≡ is_less (crowd_for ring partition replica id) (crowd_for ring partition replica to)
  more_same partition replica id to =
      ap (λ c. is_less c (crowd_in was (others (row_of ring partition) replica) to))
      (crowd_same partition replica id)
      ∙ ap (is_less (crowd_for ring partition replica id)) (crowd_same partition replica to)

  -- ---- the seat that is gathered

  the_seat : (partition replica id place e : ℕ) → replica < ring.replicas →
      list_any (is_lost_in was.devices) (row_of ring partition) ≡ false →
      gathered_in rows partition replica ≡ true → seat ring partition replica ≡ Some id →
      Lifts (row_of ring partition) (row_at rows partition) place e →
      (place ≡ replica) × (e ≡ id)
  the_seat partition replica id place e lt none gone at lifts =
      let same = one_lifted was.devices ring (row_at rows partition) partition place e replica lt none
      lifts gone in
      let here : slice_get (row_of ring partition) place ≡ Some (Some id) =
      ap (slice_get (row_of ring partition)) (sym same) ∙ seat_in_row ring partition replica lt
      ∙ ap Some at in
      (sym same, same_device (row_of ring partition) place e id lifts.at here)

  -- a device that keeps all that it wants, off which a seat is gathered, had no room
  had_no_room : (partition place id : ℕ) → partition < partition_count ring →
      has_device id ring.devices ≡ true →
      Lifts (row_of ring partition) (row_at rows partition) place id →
      want_in left id ≤ have_in left id → has_room_in was id ≡ false
  had_no_room partition place id lt is_known lifts keeps =
      let long = length-rows_of ring in
      let fewer : (p : ℕ) → p < length (rows_of ring) → seats_on id (row_at rows p) ≤ seats_on id
      (row_at (rows_of ring) p) = λ p below.
      let within : p < partition_count ring = omega (arith, below, long) in
      let least = kept_fewer id (row_of ring p) (row_at rows p)
      (both_length was left (is_locked ring hour p) (row_of ring p) (row_at rows p) (both p within))
      (both_kept was left (is_locked ring hour p) (row_of ring p) (row_at rows p) (both p within)) in
      let read = ap (seats_on id) (row_at-rows_of ring p within) in
      omega (arith, least, read) in
      let one = lifts_less (row_of ring partition) (row_at rows partition) place id lifts in
      let read = ap (seats_on id) (row_at-rows_of ring partition lt) in
      let less = sum_less id (rows_of ring) rows (many ∙ sym long) fewer partition
      (omega (arith, lt, long)) (omega (arith, one, read)) in
      let had = counts id is_known ∙ have_by_rows ring id valid in
      let keep = filled.counts id is_known in
      let want : want_in left id ≡ want_in was id =
      rw (filled.devices_are, filled.wanted_are, devices, wants) refl in
      full_has_none was id (omega (arith, less, had, keep, want, keeps))

  over_by : (partition replica id : ℕ) (locked : Bool) → partition < partition_count ring →
      replica < ring.replicas → (want_in was id ≡ 0 → want_in between id < have_in between id)
      → has_lost ring partition ≡ false →
      gathered_in rows partition replica ≡ true → seat ring partition replica ≡ Some id →
      AreMoreCrowded ring wanted partition replica id →
      IsLiftedFor was between left locked (row_of ring partition) (row_at rows partition)
      → want_in between id < have_in between id
  over_by partition replica id locked lt mt idle has gone at more (ForLost some) =
      absurd (let same = has_lost_same ring was wanted devices wants counts partition in
      cc (same, some, has))
  over_by partition replica id locked lt mt idle has gone at more (ForCrowd none place e lifts less) =
      let same = the_seat partition replica id place e mt none gone at lifts in
      let here : has_less_crowded ring wanted partition replica id ≡ true =
      sym (crowded_same ring was wanted devices wants counts partition replica id)
      ∙ subst (λ (d : ℕ). is_crowded_in was (row_of ring partition) replica d ≡ true) same.1
      (subst (λ (r : ℕ). is_crowded_in was (row_of ring partition) r e ≡ true) same.0 less) in
      let found = Any-from_list_any (λ (device : Device). is_free ring wanted partition device.id &&
      is_less (crowd_for ring partition replica device.id) (crowd_for ring partition replica id))
      ring.devices here in
      let parts = and_parts (is_free ring wanted partition found.1.id)
      (is_less (crowd_for ring partition replica found.1.id) (crowd_for ring partition replica id))
      found.4 in
      let never = not_less_after (crowd_for ring partition replica found.1.id)
      (crowd_for ring partition replica id) parts.1 in
      let is = more found.1.id parts.0 in
      absurd (cc (never, is))
  over_by partition replica id locked lt mt idle has gone at more (ForDrained none place e lifts wants)
      =
      let same = the_seat partition replica id place e mt none gone at lifts in
      idle (subst (λ (d : ℕ). want_in was d ≡ 0) same.1 wants)
  over_by partition replica id locked lt mt idle has gone at more (ForApart none place e lifts goes keeps)
      =
      let same = the_seat partition replica id place e mt none gone at lifts in
      let there : Lifts (row_of ring partition) (row_at rows partition) place id =
      subst (λ (d : ℕ). Lifts (row_of ring partition) (row_at rows partition) place d) same.1 lifts in
      let full : want_in left id ≤ have_in left id =
      subst (λ (d : ℕ). want_in left d ≤ have_in left d) same.1 keeps in
      let shut = had_no_room partition place id lt (known partition replica id at) there full in
      let go : CanGoApart was (others (row_of ring partition) replica) id =
      subst (λ (d : ℕ). CanGoApart was (others (row_of ring partition) replica) d) same.1
      (subst (λ (r : ℕ). CanGoApart was (others (row_of ring partition) r) e) same.0 goes) in
      let roomy = (and_parts (has_room_in was go.to) _ go.free).0 in
      let apart : go.to ≢ id = λ is. (let read = ap (has_room_in was) is in cc (read, shut, roomy)) in
      let free : is_free ring wanted partition go.to ≡ true =
      sym (free_same ring was wanted devices wants counts partition go.to)
      ∙ free_other was (row_of ring partition) replica id go.to
      (seat_in_row ring partition replica mt ∙ ap Some at) apart go.free in
      let is = more go.to free in
      let never = sym (more_same partition replica id go.to) ∙ go.no_more in
      absurd (cc (is, never))
  over_by partition replica id locked lt mt idle has gone at more (ForSurplus none place e lifts over) =
      let same = the_seat partition replica id place e mt none gone at lifts in
      subst (λ (d : ℕ). want_in between d < have_in between d) same.1 over
  over_by partition replica id locked lt mt idle has gone at more (ForNone none is rest) =
      absurd (let stays = ap (λ r. is_empty (get_or r replica None)) is ∙ not_empty was.devices ring
      partition replica mt none in cc (stays, gone))

  -- ---- the partitions that are left

  taken_gone : (partition place id : ℕ) → Lifts (row_of ring partition) (row_at rows partition)
      place id → ((replica : ℕ) → replica < ring.replicas → gathered_in rows partition replica ≡
      false) → ⊥
  taken_gone partition place id lifts stays =
      let within = slice_get_within (row_of ring partition) place (Some id) lifts.at in
      let empty : gathered_in rows partition place ≡ true = ap (λ r. is_empty (get_or r place None))
      lifts.lifted ∙ ap is_empty (get_or-set_same (row_of ring partition) place None None
      within) in
      let full = stays place (omega (arith, within, length-row_of ring partition)) in
      cc (empty, full)

  more_by : (partition replica id : ℕ) (locked : Bool) → replica < ring.replicas → locked ≡ false →
      has_lost ring partition ≡ false
      → ((r : ℕ) → r < ring.replicas → gathered_in rows partition r ≡ false) →
      seat ring partition replica ≡ Some id → want_in between id < have_in between id
      → IsLiftedFor was between left locked (row_of ring partition) (row_at rows partition)
      → AreMoreCrowded ring wanted partition replica id
  more_by partition replica id locked mt unlocked has stays at over (ForLost some) to free =
      absurd (let same = has_lost_same ring was wanted devices wants counts partition in
      cc (same, some, has))
  more_by partition replica id locked mt unlocked has stays at over (ForCrowd none place e lifts less)
      to free = absurd (taken_gone partition place e lifts stays)
  more_by partition replica id locked mt unlocked has stays at over (ForDrained none place e lifts
      wants) to free = absurd (taken_gone partition place e lifts stays)
  more_by partition replica id locked mt unlocked has stays at over (ForApart none place e lifts goes
      keeps) to free = absurd (taken_gone partition place e lifts stays)
  more_by partition replica id locked mt unlocked has stays at over (ForSurplus none place e lifts
      was_over) to free = absurd (taken_gone partition place e lifts stays)
  more_by partition replica id locked mt unlocked has stays at over (ForNone none is rest) to free =
      let here : slice_get (row_of ring partition) replica ≡ Some (Some id) =
      seat_in_row ring partition replica mt ∙ ap Some at in
      let opens : is_free_in was (row_of ring partition) to ≡ true =
      free_same ring was wanted devices wants counts partition to ∙ free in
      sym (more_same partition replica id to) ∙ rest unlocked
      (one_free was (row_of ring partition) to opens) replica id here over to
      (free_others was (row_of ring partition) replica id to here opens)

  -- a device that a partition that is left has a seat on keeps one, and it kept one before
  stays_at : (partition replica id : ℕ) → partition < partition_count ring → replica < ring.replicas
      → gathered_in rows partition replica ≡ false → seat ring partition replica ≡ Some id
      → get_or (row_at rows partition) replica None ≡ Some id
  stays_at partition replica id lt mt stays at = ⊎_elim
      (λ none. absurd (let empty = ap is_empty none in cc (empty, stays)))
      (λ same. same ∙ row_of_at ring partition replica mt ∙ at)
      (both_kept was left (is_locked ring hour partition) (row_of ring partition)
      (row_at rows partition) (both partition lt) replica)

  keeps_one : (partition replica id : ℕ) → partition < partition_count ring →
      replica < ring.replicas → gathered_in rows partition replica ≡ false
      → seat ring partition replica ≡ Some id → want_in was id ≡ 0 →
      want_in between id < have_in between id
  keeps_one partition replica id lt mt stays at none =
      let is_known = known partition replica id at in
      let long = both_length was left (is_locked ring hour partition) (row_of ring partition)
      (row_at rows partition) (both partition lt) in
      let here = seat_at (row_at rows partition) replica (Some id)
      (omega (arith, mt, long, length-row_of ring partition))
      (stays_at partition replica id lt mt stays at) in
      let one = one_here (row_at rows partition) replica id here in
      let all = sum_by-set (seats_on id) rows partition [] [] (omega (arith, lt, many)) in
      let counted = filled.counts id is_known in
      let kept = fewer id is_known in
      let want = same_wants id in
      omega (arith, one, all, counted, kept, want, none)

  pub gives_apart_first : GivesApartFirst ring hour wanted (gathered_in rows)
  gives_apart_first partition replica id is has gone at more other place also left_so there =
      more_by other place id (is_locked ring hour other) also.replica_there left_so.unlocked
      left_so.none_lost left_so.none_gathered there
      (over_by partition replica id (is_locked ring hour partition) is.partition_there
      is.replica_there (keeps_one other place id also.partition_there also.replica_there
      (left_so.none_gathered place also.replica_there) there) has gone at more
      (reasons partition is.partition_there))
      (reasons other also.partition_there)
