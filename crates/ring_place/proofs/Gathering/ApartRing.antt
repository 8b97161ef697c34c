-- Of a ring seats that can go apart are gathered first.
use Rattle.std.proofs.Common.{◌≡◌, ◌∙◌, ℕ, ◌<◌, ◌≤◌, Bool, false, List, length, map, Option}
use Rattle.std.proofs.Common.{ap, subst, refl, true, arith}
use Rattle.std.specs.Prelude.{slice_index_or}
use Rattle.std.specs.List.{range_with_len}
use Rattle.std.specs.List.Sorted.{IsPermutation}
use Rattle.ring_model.specs.Ring.{RingRecord, has_device, partition_count}
use Rattle.ring_model.specs.Valid.{IsValid}
use Rattle.ring_share.specs.Crowd.{row_of, rows_of, seats_on}
use Rattle.ring_share.specs.Room.{have}
use Rattle.ring_room.specs.Load.{Load, have_in, is_free_in, want_in}
use Rattle.ring_place.specs.Apart.{GivesApartFirst}
use Rattle.ring_place.specs.Rebalance.{is_locked, is_recent}
use Rattle.ring_place.specs.declared.gather.Pass.TheVariants.{First, Apart, Second}
use Rattle.ring_place.specs.Inner.Gathering.{AreRowsOfSeats, Falls, IsFilled, IsFirst, IsPass}
use Rattle.ring_place.specs.Inner.Gathering.{IsSecond, Lifts, Same, Surplus, gathered_in}
use Rattle.ring_deal.specs.Inner.Orders.{is_among}
use Rattle.ring_place.specs.Made.{row_at}
use Rattle.ring_place.proofs.Gathering.ApartFirst.{gives_apart_first}
use Rattle.ring_place.proofs.Gathering.GatheredRing.{both_lifted, locked_at}
use Rattle.ring_place.proofs.Gathering.GatheredSeats.{free_same}
use Rattle.ring_place.proofs.Gathering.LiftedFor.{IsLiftedFor, lifted_for}
use Rattle.ring_place.proofs.Gathering.PassSteps.{pass_rows, second_passed}
use Rattle.ring_place.proofs.Gathering.SeatSums.{lifts_fewer, lifts_less, sum_less}
use Rattle.ring_deal.proofs.Orders.{order_all, order_is_below}
use Rattle.ring_place.proofs.Rows.RingSeats.{length-rows_of, row_at-rows_of, seat_known}

-- the second pass leaves no more seats of a partition on any device
second_fewer : (was left : Load) (locked : Bool) (old row : List (Option ℕ)) (id : ℕ) →
    IsSecond was left locked old row → seats_on id row ≤ seats_on id old
second_fewer was left locked old row id (Surplus none unlocked replica e lifts free keeps) =
    lifts_fewer old row replica e id lifts
second_fewer was left locked old row id (Same is rest) =
    let same = ap (seats_on id) is in omega (arith, same)

module _ (ring : RingRecord) (hour : ℕ) (was start between left : Load) (wanted : List ℕ)
    (locked : List Bool) (order : List ℕ) (middle after rows : List (List (Option ℕ)))
    (valid : IsValid ring) (devices : was.devices ≡ ring.devices) (wants : was.wanted ≡ wanted)
    (counts : (id : ℕ) → has_device id ring.devices ≡ true → have_in was id ≡ have ring id)
    (locks_are : locked ≡ map (is_recent ring.min_hours hour) ring.moved)
    (each : IsPermutation (range_with_len 0 (partition_count ring)) order)
    (known : AreRowsOfSeats was.devices middle)
    (first : IsPass First order was start locked (rows_of ring) middle)
    (apart : IsPass Apart order was between locked middle after)
    (second : IsPass Second order was left locked after rows) (falls : Falls between left) where
  middle_many : length middle ≡ partition_count ring
  middle_many = first.as_many ∙ length-rows_of ring

  after_many : length after ≡ partition_count ring
  after_many = apart.as_many ∙ middle_many

  whole : (p : ℕ) → p < partition_count ring → is_among order p ≡ true
  whole p lt = order_all (partition_count ring) order each p lt

  after_known : AreRowsOfSeats was.devices after
  after_known = pass_rows Apart order was.devices was between locked middle after apart
      (λ p lt. whole p (omega (arith, lt, middle_many))) known

  want_left : (id : ℕ) → want_in left id ≡ want_in between id
  want_left id = rw (
    second.filled.devices_are,
    second.filled.wanted_are,
    apart.filled.devices_are,
    apart.filled.wanted_are,
  ) refl

  -- a device that the last pass took a seat off kept more than it wants before
  over_before : (p replica id : ℕ) → p < partition_count ring →
      Lifts (row_at after p) (row_at rows p) replica id → want_in left id ≤ have_in left id →
      want_in between id < have_in between id
  over_before p replica id lt lifts keeps =
      let is_known : has_device id was.devices ≡ true =
      after_known.known p (omega (arith, lt, after_many)) replica id lifts.at in
      let less = sum_less id after rows second.as_many
      (λ q below. second_fewer was left (slice_index_or locked q false) (row_at after q)
      (row_at rows q) id (second.lifted q (whole q (omega (arith, below, after_many))))) p
      (omega (arith, lt, after_many))
      (lifts_less (row_at after p) (row_at rows p) replica id lifts) in
      let one = apart.filled.counts id is_known in
      let two = second.filled.counts id is_known in
      let want = want_left id in
      omega (arith, less, one, two, want, keeps)

  still_keeps : (p replica id : ℕ) → p < partition_count ring →
      Lifts (row_at middle p) (row_at after p) replica id →
      want_in between id ≤ have_in between id → want_in left id ≤ have_in left id
  still_keeps p replica id lt lifts keeps =
      let is_known : has_device id was.devices ≡ true =
      known.known p (omega (arith, lt, middle_many)) replica id lifts.at in
      let still = falls.floor id (ap (has_device id) apart.filled.devices_are ∙ is_known) keeps in
      let want = want_left id in
      omega (arith, still, want)

  reasons : (p : ℕ) → p < partition_count ring →
      IsLiftedFor was between left (is_locked ring hour p) (row_of ring p) (row_at rows p)
  reasons p lt =
      let one = subst (λ r. IsFirst was (slice_index_or locked p false) r (row_at middle p))
      (row_at-rows_of ring p lt) (first.lifted p (whole p lt)) in
      subst (λ b. IsLiftedFor was between left b (row_of ring p) (row_at rows p))
      (locked_at ring hour locked valid locks_are p lt)
      (lifted_for was between left (slice_index_or locked p false) (row_of ring p)
      (row_at middle p) (row_at after p) (row_at rows p)
      (λ replica id. still_keeps p replica id lt) (λ replica id. over_before p replica id lt)
      one (apart.lifted p (whole p lt)) (second.lifted p (whole p lt)))

  -- what the last two passes lift is what the second alone may lift
  pub second_alone : IsPass Second order was left locked middle rows
  second_alone = second_passed Apart order was between left locked middle after rows
      (λ (e : Apart ≡ First). cc e) known
      (λ p among. let below = order_is_below (partition_count ring) order each p among in
      omega (arith, below, middle_many)) falls apart second

  pub ring_gives_apart : GivesApartFirst ring hour wanted (gathered_in rows)
  ring_gives_apart =
      let filled : IsFilled left ring.devices wanted rows = subst (λ ds. IsFilled left ds wanted rows)
      devices (subst (λ ws. IsFilled left was.devices ws rows) wants second.filled) in
      gives_apart_first ring hour was between left wanted rows valid devices wants counts filled
      (second.as_many ∙ after_many) (seat_known ring valid)
      (both_lifted ring hour was start left locked order middle rows valid locks_are each first
      second_alone) reasons
      (λ id is_known. falls.down id (ap (has_device id) (apart.filled.devices_are ∙ devices)
      ∙ is_known))
      (λ id. rw (apart.filled.devices_are, apart.filled.wanted_are) refl)

-- where no device has room there is nothing to tell
pub none_apart : (ring : RingRecord) (hour : ℕ) (was : Load) (wanted : List ℕ)
    (rows : List (List (Option ℕ))) → was.devices ≡ ring.devices → was.wanted ≡ wanted
    → ((id : ℕ) → has_device id ring.devices ≡ true → have_in was id ≡ have ring id)
    → ((row : List (Option ℕ)) (id : ℕ) → is_free_in was row id ≡ false)
    → GivesApartFirst ring hour wanted (gathered_in rows)
none_apart ring hour was wanted rows devices wants counts none partition replica id is has gone at
    more other place also left_so there to free =
    absurd (let shut = none (row_of ring other) to in let read =
    free_same ring was wanted devices wants counts other to in cc (shut, read, free))
