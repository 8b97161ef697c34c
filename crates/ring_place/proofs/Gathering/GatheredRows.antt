-- The rows that the passes leave are gathered as a rebalance gathers.
use Rattle.std.proofs.Common.{◌≡◌, ℕ, ◌+◌, ◌<◌, ◌≤◌, Bool, true, false, not, ◌⊎◌, inl, inr, List}
use Rattle.std.proofs.Common.{[], length, get_or, map, sum_by, Option, Some, None, refl, sym, ap}
use Rattle.std.proofs.Common.{subst, ◌∙◌, ⊎_elim, arith}
use Rattle.std.specs.Prelude.{slice_get, if◌then◌else◌}
use Rattle.std.specs.List.{list_any, range_with_len}
use Rattle.std.proofs.lemmas.List.{get_or-set_same}
use Rattle.std.proofs.lemmas.List.Folds.{fold-map}
use Rattle.std.proofs.lemmas.List.FromFn.{fill_by_all}
use Rattle.std.proofs.lemmas.Option.{slice_get_within}
use Rattle.ring_model.specs.Ring.{RingRecord, has_device, has_present, partition_count, seat}
use Rattle.ring_share.specs.Crowd.{row_of, seats_on}
use Rattle.ring_share.specs.Room.{have, want_of}
use Rattle.ring_share.proofs.Rows.{length-row_of, row_of_at}
use Rattle.ring_room.specs.Load.{Load, have_in, want_in}
use Rattle.ring_place.specs.Rebalance.{AreReasons, HasReason, IsLawfulGathering, IsWhole, has_free}
use Rattle.ring_place.specs.Rebalance.{has_less_crowded, has_lost, is_locked, is_lost, kept_count}
use Rattle.ring_place.specs.Rebalance.{kept_row}
use Rattle.ring_room.specs.Rows.{is_empty}
use Rattle.ring_place.specs.Made.{row_at}
use Rattle.ring_place.specs.Inner.Gathering.{IsFilled, Lifts, gathered_in}
use Rattle.ring_room.specs.Free.{has_free_in}
use Rattle.ring_room.specs.Free.{is_crowded_in}
use Rattle.ring_place.specs.Made.{is_lost_in}
use Rattle.ring_place.proofs.Gathering.BothPasses.{IsBoth, Left, Lost, Taken, both_kept}
use Rattle.ring_place.proofs.Gathering.BothPasses.{both_length}
use Rattle.ring_place.proofs.Gathering.GatheredSeats.{crowded_same, has_free_same, has_lost_same}
use Rattle.ring_place.proofs.Gathering.GatheredSeats.{lost_empty, lost_found, lost_same, not_empty}
use Rattle.ring_place.proofs.Gathering.GatheredSeats.{one_lifted, seat_in_row, want_same}
use Rattle.ring_place.proofs.Rows.LiftedSeats.{same_device}

module _ (ring : RingRecord) (hour : ℕ) (was left : Load) (wanted : List ℕ)
    (rows : List (List (Option ℕ))) (devices : was.devices ≡ ring.devices)
    (wants : was.wanted ≡ wanted)
    (counts : (id : ℕ) → has_device id ring.devices ≡ true → have_in was id ≡ have ring id)
    (filled : IsFilled left ring.devices wanted rows) (many : length rows ≡ partition_count
    ring)
    (both : (partition : ℕ) → partition < partition_count ring →
    IsBoth was left (is_locked ring hour partition) (row_of ring partition)
    (row_at rows partition)) where
  -- ---- the rows are the ring's without the gathered seats

  kept_at : (partition replica : ℕ) → partition < partition_count ring → replica < ring.replicas
      → get_or (row_at rows partition) replica None ≡ (if gathered_in rows partition replica then
      None else seat ring partition replica)
  kept_at partition replica lt mt = ⊎_elim
      (λ none. none ∙ sym (ap (λ s. if is_empty s then None else seat ring partition replica) none))
      (λ same. decide (get_or (row_at rows partition) replica None) (same ∙ row_of_at ring partition
      replica mt))
      (both_kept was left (is_locked ring hour partition) (row_of ring partition)
      (row_at rows partition) (both partition lt) replica)
    where
      decide : {x : Option ℕ} (s : Option ℕ) → s ≡ x → s ≡ (if is_empty s then None else x)
      decide None is = refl
      decide (Some id) is = is

  pub row_is_kept : (partition : ℕ) → partition < partition_count ring →
      row_at rows partition ≡ kept_row ring (gathered_in rows) partition
  row_is_kept partition lt =
      fill_by_all (λ replica. if gathered_in rows partition replica then None else
      seat ring partition replica) (row_at rows partition) ring.replicas None
      (both_length was left (is_locked ring hour partition) (row_of ring partition)
      (row_at rows partition) (both partition lt) ∙ length-row_of ring partition)
      (λ replica mt. kept_at partition replica lt mt)

  pub rows_are_kept : rows ≡ map (λ partition. kept_row ring (gathered_in rows) partition)
      (range_with_len 0 (partition_count ring))
  rows_are_kept = fill_by_all (λ partition. kept_row ring (gathered_in rows) partition) rows
      (partition_count ring) [] many (λ partition lt. row_is_kept partition lt)

  pub counts_are_kept : (id : ℕ) → has_device id ring.devices ≡ true →
      have_in left id ≡ kept_count ring (gathered_in rows) id
  counts_are_kept id known =
      filled.counts id known ∙ ap (sum_by (seats_on id)) rows_are_kept
      ∙ fold-map (λ (n : ℕ) (row : List (Option ℕ)). n + seats_on id row)
      (λ (partition : ℕ). kept_row ring (gathered_in rows) partition) 0
      (range_with_len 0 (partition_count ring))

  -- ---- which seats are gathered

  lost_by : (partition replica : ℕ) (locked : Bool) → replica < ring.replicas →
      is_lost ring (seat ring partition replica) ≡ true
      → IsBoth was left locked (row_of ring partition) (row_at rows partition) →
      gathered_in rows partition replica ≡ true
  lost_by partition replica locked lt lost (Lost some is) =
      lost_empty was.devices ring (row_at rows partition) partition replica lt is ∙ lost_same ring
      was wanted devices wants counts (seat ring partition replica) ∙ lost
  lost_by partition replica locked lt lost (Taken none unlocked at id lifts reason) =
      absurd (let found = lost_found was.devices ring partition replica lt
      (lost_same ring was wanted devices wants counts (seat ring partition replica) ∙ lost) in
      cc (found, none))
  lost_by partition replica locked lt lost (Left none is calm rest) =
      absurd (let found = lost_found was.devices ring partition replica lt
      (lost_same ring was wanted devices wants counts (seat ring partition replica) ∙ lost) in
      cc (found, none))

  only_lost_by : (partition replica : ℕ) (locked : Bool) → replica < ring.replicas →
      has_lost ring partition ≡ true → gathered_in rows partition replica ≡ true
      → IsBoth was left locked (row_of ring partition) (row_at rows partition) →
      is_lost ring (seat ring partition replica) ≡ true
  only_lost_by partition replica locked lt has gone (Lost some is) =
      sym (lost_same ring was wanted devices wants counts (seat ring partition replica)) ∙ sym
      (lost_empty was.devices ring (row_at rows partition) partition replica lt is) ∙ gone
  only_lost_by partition replica locked lt has gone (Taken none unlocked at id lifts reason) =
      absurd (let same = has_lost_same ring was wanted devices wants counts partition in
      cc (same, none, has))
  only_lost_by partition replica locked lt has gone (Left none is calm rest) =
      absurd (let same = has_lost_same ring was wanted devices wants counts partition in
      cc (same, none, has))

  left_none : (partition replica : ℕ) → replica < ring.replicas → list_any (is_lost_in was.devices)
      (row_of ring partition) ≡ false → row_at rows partition ≡ row_of ring partition
      → gathered_in rows partition replica ≡ false
  left_none partition replica lt none is = ap (λ r. is_empty (get_or r replica None)) is ∙ not_empty
      was.devices ring partition replica lt none

  one_by : (partition replica other : ℕ) (locked : Bool) → replica < ring.replicas →
      other < ring.replicas → has_lost ring partition ≡ false → gathered_in rows partition replica ≡
      true
      → gathered_in rows partition other ≡ true → IsBoth was left locked (row_of ring partition)
      (row_at rows partition) → replica ≡ other
  one_by partition replica other locked lt mt has gone also (Lost some is) =
      absurd (let same = has_lost_same ring was wanted devices wants counts partition in
      cc (same, some, has))
  one_by partition replica other locked lt mt has gone also (Taken none unlocked at id lifts reason)
      =
      one_lifted was.devices ring (row_at rows partition) partition at id replica lt none lifts gone
      ∙ sym (one_lifted was.devices ring (row_at rows partition) partition at id other mt none
      lifts also)
  one_by partition replica other locked lt mt has gone also (Left none is calm rest) =
      absurd (let stays = left_none partition replica lt none is in cc (stays, gone))

  unlocked_by : (partition replica : ℕ) (locked : Bool) → replica < ring.replicas →
      has_lost ring partition ≡ false → gathered_in rows partition replica ≡ true
      → IsBoth was left locked (row_of ring partition) (row_at rows partition) → locked ≡ false
  unlocked_by partition replica locked lt has gone (Lost some is) =
      absurd (let same = has_lost_same ring was wanted devices wants counts partition in
      cc (same, some, has))
  unlocked_by partition replica locked lt has gone (Taken none unlocked at id lifts reason) =
      unlocked
  unlocked_by partition replica locked lt has gone (Left none is calm rest) =
      absurd (let stays = left_none partition replica lt none is in cc (stays, gone))

  pub gathering_is_lawful : IsLawfulGathering ring hour (gathered_in rows)
  gathering_is_lawful = record {
    lost = λ partition replica is lost. lost_by partition replica (is_locked ring hour partition)
        is.replica_there lost (both partition is.partition_there);
    only_lost = λ partition replica is has gone. only_lost_by partition replica
        (is_locked ring hour partition) is.replica_there has gone
        (both partition is.partition_there);
    one = λ partition replica other is also has gone too. one_by partition replica other
        (is_locked ring hour partition) is.replica_there also.replica_there has gone too
        (both partition is.partition_there);
    unlocked = λ partition replica is has gone. unlocked_by partition replica
        (is_locked ring hour partition) is.replica_there has gone
        (both partition is.partition_there);
  }

  -- ---- why

  want_left : (id : ℕ) → want_in left id ≡ want_in was id
  want_left id = rw (filled.devices_are, filled.wanted_are, devices, wants) refl

  reason_of : (partition replica id : ℕ) → has_device id ring.devices ≡ true
      → (is_crowded_in was (row_of ring partition) replica id ≡ true) ⊎
      ((has_free_in was (row_of ring partition) ≡ true) × (want_in left id ≤ have_in left id))
      → HasReason ring wanted (gathered_in rows) partition replica id
  reason_of partition replica id known (inl less) =
      inl (sym (crowded_same ring was wanted devices wants counts partition replica id) ∙ less)
  reason_of partition replica id known (inr full) = inr (
    sym (has_free_same ring was wanted devices wants counts partition) ∙ full.0,
    (let keeps = full.1 in
        let is_kept = counts_are_kept id known in
        let one = want_left id in
        let two = want_same ring was wanted devices wants counts id in
        omega (arith, keeps, is_kept, one, two)),
  )

  reasons_by : (partition replica id : ℕ) (locked : Bool) → replica < ring.replicas →
      gathered_in rows partition replica ≡ true → seat ring partition replica ≡ Some id →
      has_present id ring.devices ≡ true
      → has_device id ring.devices ≡ true → IsBoth was left locked (row_of ring partition)
      (row_at rows partition) → HasReason ring wanted (gathered_in rows) partition replica id
  reasons_by partition replica id locked lt gone at present known (Lost some is) =
      let lost : is_lost ring (seat ring partition replica) ≡ true =
      sym (lost_same ring was wanted devices wants counts (seat ring partition replica)) ∙ sym
      (lost_empty was.devices ring (row_at rows partition) partition replica lt is) ∙ gone in
      let stays : is_lost ring (seat ring partition replica) ≡ false =
      ap (is_lost ring) at ∙ ap not present in
      absurd (cc (lost, stays))
  reasons_by partition replica id locked lt gone at present known (Taken none unlocked place e lifts
      reason) =
      let same = one_lifted was.devices ring (row_at rows partition) partition place e replica lt
      none lifts gone in
      let here : slice_get (row_of ring partition) place ≡ Some (Some id) =
      ap (slice_get (row_of ring partition)) (sym same) ∙ seat_in_row ring partition replica lt
      ∙ ap Some at in
      let one = same_device (row_of ring partition) place e id lifts.at here in
      subst (λ (d : ℕ). HasReason ring wanted (gathered_in rows) partition replica d) one
      (subst (λ (r : ℕ). HasReason ring wanted (gathered_in rows) partition r e) (sym same)
      (reason_of partition place e (ap (λ (d : ℕ). has_device d ring.devices) one ∙ known)
      reason))
  reasons_by partition replica id locked lt gone at present known (Left none is calm rest) =
      absurd (let stays = left_none partition replica lt none is in cc (stays, gone))

  pub reasons_hold : ((partition replica id : ℕ) → seat ring partition replica ≡ Some id →
      has_device id ring.devices ≡ true) → AreReasons ring wanted (gathered_in rows)
  reasons_hold known partition replica id is gone at present =
      reasons_by partition replica id (is_locked ring hour partition) is.replica_there gone at
      present (known partition replica id at) (both partition is.partition_there)

  -- ---- no more

  taken_gone : (partition place id : ℕ) → Lifts (row_of ring partition) (row_at rows partition)
      place id → ((replica : ℕ) → replica < ring.replicas → gathered_in rows partition replica ≡
      false) → ⊥
  taken_gone partition place id lifts stays =
      let within = slice_get_within (row_of ring partition) place (Some id) lifts.at in
      let empty : gathered_in rows partition place ≡ true = ap (λ r. is_empty (get_or r place None))
      lifts.lifted ∙ ap is_empty (get_or-set_same (row_of ring partition) place None None
      within) in
      let full = stays place (omega (arith, within, length-row_of ring partition)) in
      cc (empty, full)

  crowded_by : (partition replica id : ℕ) (locked : Bool) → replica < ring.replicas →
      locked ≡ false → has_lost ring partition ≡ false
      → ((r : ℕ) → r < ring.replicas → gathered_in rows partition r ≡ false) →
      seat ring partition replica ≡ Some id → IsBoth was left locked (row_of ring partition)
      (row_at rows partition)
      → has_less_crowded ring wanted partition replica id ≡ false
  crowded_by partition replica id locked lt unlocked has stays at (Lost some is) =
      absurd (let same = has_lost_same ring was wanted devices wants counts partition in
      cc (same, some, has))
  crowded_by partition replica id locked lt unlocked has stays at (Taken none free place e lifts
      reason) = absurd (taken_gone partition place e lifts stays)
  crowded_by partition replica id locked lt unlocked has stays at (Left none is calm rest) =
      sym (crowded_same ring was wanted devices wants counts partition replica id) ∙ calm unlocked
      replica id (seat_in_row ring partition replica lt ∙ ap Some at)

  surplus_by : (partition replica id : ℕ) (locked : Bool) → replica < ring.replicas →
      locked ≡ false → has_lost ring partition ≡ false
      → ((r : ℕ) → r < ring.replicas → gathered_in rows partition r ≡ false) →
      seat ring partition replica ≡ Some id → has_device id ring.devices ≡ true →
      has_free ring wanted partition ≡ true
      → IsBoth was left locked (row_of ring partition) (row_at rows partition) →
      kept_count ring (gathered_in rows) id ≤ want_of ring wanted id
  surplus_by partition replica id locked lt unlocked has stays at known free (Lost some is) =
      absurd (let same = has_lost_same ring was wanted devices wants counts partition in
      cc (same, some, has))
  surplus_by partition replica id locked lt unlocked has stays at known free (Taken none opens place
      e lifts reason) = absurd (taken_gone partition place e lifts stays)
  surplus_by partition replica id locked lt unlocked has stays at known free
      (Left none is calm rest) =
      let keeps = rest unlocked (has_free_same ring was wanted devices wants counts partition ∙
      free) replica id (seat_in_row ring partition replica lt ∙ ap Some at) in
      let is_kept = counts_are_kept id known in
      let one = want_left id in
      let two = want_same ring was wanted devices wants counts id in
      omega (arith, keeps, is_kept, one, two)

  pub gathering_is_whole : ((partition replica id : ℕ) → seat ring partition replica ≡ Some id →
      has_device id ring.devices ≡ true) → IsWhole ring hour wanted (gathered_in rows)
  gathering_is_whole known = record {
    crowded = λ partition replica id is rests at.
        crowded_by partition replica id (is_locked ring hour partition) is.replica_there
        rests.unlocked rests.none_lost rests.none_gathered at
        (both partition is.partition_there);
    surplus = λ partition replica id is rests at free.
        surplus_by partition replica id (is_locked ring hour partition) is.replica_there
        rests.unlocked rests.none_lost rests.none_gathered at (known partition replica id at)
        free (both partition is.partition_there);
  }
