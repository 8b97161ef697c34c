use Rattle.std.proofs.Common.{◌≡◌, ◌∙◌, ℕ, Bool, List, length, map, sym, ap, subst, refl, arith}
use Rattle.std.specs.List.{range_with_len}
use Rattle.std.specs.List.Sorted.{IsPermutation}
use Rattle.std.proofs.lemmas.List.{length-map}
use Rattle.ring_model.specs.Valid.{IsValid}
use Rattle.ring_share.specs.Crowd.{rows_of}
use Rattle.ring_place.specs.Rebalance.{is_recent}
use Rattle.ring_place.specs.declared.gather.Pass.TheVariants.{First}
use Rattle.ring_place.specs.Inner.Gathering.{AreLater, AreRowsOfSeats, IsFilled, IsPass}
use Rattle.ring_place.specs.Apart.{GivesApartFirst}
use Rattle.ring_place.specs.Inner.Gathering.{gathered_in}
use Rattle.ring_place.proofs.Gathering.ApartRing.{none_apart, ring_gives_apart, second_alone}
use Rattle.ring_place.proofs.Gathering.GatheredRing.{is_gathered}
use Rattle.ring_place.proofs.Gathering.PassSteps.{no_second}
use Rattle.ring_place.proofs.Rows.RingSeats.{length-rows_of, ring_filled, ring_rows}
use Rattle.ring_place.specs.Made.{left_of, load_of, locks_of}
use Rattle.ring_place.proofs.Gathering.ByName.{left_first, left_once, left_whole}
use Rattle.ring_place.proofs.Gathering.ByName.{load_is}
use Rattle.ring_place.proofs.gather.gathering.Goals as goal

pub gather-requires-clause-locked : goal.gather-requires-clause-locked
gather-requires-clause-locked c =
    let ring = c.args.ring.now in
    let valid : IsValid ring = c.requires.valid in
    let rows : c.in_ok-seats.seats ≡ rows_of ring = (c.in_ok-seats.ensures ∙ c.requires.old) in
    let locked : c.as_slice.result.now ≡ map (is_recent ring.min_hours c.args.hour) ring.moved =
    c.as_slice.ensures.value ∙ c.in_ok-locked.ensures in
    let count = valid.moved in
    omega (
      arith,
      ap length locked,
      length-map ring.moved (is_recent ring.min_hours c.args.hour),
      count,
      ap length rows,
      length-rows_of ring,
    )

pub gather-requires-clause-order : goal.gather-requires-clause-order
gather-requires-clause-order c =
    let ring = c.args.ring.now in
    let rows : c.in_ok-seats.seats ≡ rows_of ring = (c.in_ok-seats.ensures ∙ c.requires.old) in
    subst (λ (n : ℕ). IsPermutation (range_with_len 0 n) c.args.order.now)
    (sym (ap length rows ∙ length-rows_of ring)) c.requires.order

pub gather-requires-clause-rows : goal.gather-requires-clause-rows
gather-requires-clause-rows c =
    let ring = c.args.ring.now in
    let rows : c.in_ok-seats.seats ≡ rows_of ring = (c.in_ok-seats.ensures ∙ c.requires.old) in
    subst (λ ds. AreRowsOfSeats ds c.in_ok-seats.seats) (sym c.requires.was.devices)
    (subst (λ r. AreRowsOfSeats ring.devices r) (sym rows) (ring_rows ring c.requires.valid))

pub gather-requires-clause-filled : goal.gather-requires-clause-filled
gather-requires-clause-filled c =
    let ring = c.args.ring.now in
    let was = c.args.was.now in
    let rows : c.in_ok-seats.seats ≡ rows_of ring = (c.in_ok-seats.ensures ∙ c.requires.old) in
    subst (λ k. IsFilled k was.devices was.wanted c.in_ok-seats.seats) (sym c.in_ok-kept.ensures)
    (subst (λ ds. IsFilled was ds was.wanted c.in_ok-seats.seats) (sym c.requires.was.devices)
    (subst (λ r. IsFilled was ring.devices was.wanted r) (sym rows)
    (ring_filled ring was was.wanted c.requires.valid
    c.requires.was.devices refl c.requires.was.load c.requires.was.counts)))

pub gather_surplus-requires-clause-locked : goal.gather_surplus-requires-clause-locked
gather_surplus-requires-clause-locked c =
    let ring = c.args.ring.now in
    let valid : IsValid ring = c.requires.valid in
    let rows : c.in_ok-seats.seats ≡ rows_of ring = (c.in_ok-seats.ensures ∙ c.requires.old) in
    let locked : c.as_slice-2.result.now ≡ map (is_recent ring.min_hours c.args.hour) ring.moved =
    c.as_slice-2.ensures.value ∙ c.in_ok-locked.ensures in
    let count = valid.moved in
    let many = c.gather.ensures.pass.as_many in
    omega (
      arith,
      ap length locked,
      length-map ring.moved (is_recent ring.min_hours c.args.hour),
      count,
      ap length rows,
      length-rows_of ring,
      many,
    )

pub gather_surplus-requires-clause-order : goal.gather_surplus-requires-clause-order
gather_surplus-requires-clause-order c =
    let ring = c.args.ring.now in
    let rows : c.in_ok-seats.seats ≡ rows_of ring = (c.in_ok-seats.ensures ∙ c.requires.old) in
    subst (λ (n : ℕ). IsPermutation (range_with_len 0 n) c.args.order.now)
    (sym (c.gather.ensures.pass.as_many ∙ ap length rows ∙ length-rows_of ring)) c.requires.order

pub returns-then-not-has_some_room-clause-gathered : goal.returns-then-not-has_some_room-clause-gathered
returns-then-not-has_some_room-clause-gathered c =
    let ring = c.args.ring.now in
    let was = c.args.was.now in
    let locks : c.as_slice.result.now ≡ map (is_recent ring.min_hours c.args.hour) ring.moved =
    c.as_slice.ensures.value ∙ c.in_ok-locked.ensures in
    let wants : was.wanted ≡ c.args.was.now.wanted =
    refl in
    is_gathered ring c.args.hour was c.gather.new.kept c.gather.new.kept
    c.args.was.now.wanted c.as_slice.result.now c.args.order.now c.gather.new.seats
    c.gather.new.seats
    c.requires.valid c.requires.was.wanted c.requires.was.devices wants
    c.requires.was.counts locks c.requires.order
    (subst (λ r. IsPass First c.args.order.now was c.gather.new.kept c.as_slice.result.now r
    c.gather.new.seats) (c.in_ok-seats.ensures ∙ c.requires.old) c.gather.ensures.pass)
    (no_second c.args.order.now was c.gather.new.kept c.as_slice.result.now c.gather.new.seats
    c.gather.ensures.pass.filled (c.has_some_room.ensures.none c.if-not-has_some_room.true))

pub returns-clause-gathered : goal.returns-clause-gathered
returns-clause-gathered c =
    let ring = c.args.ring.now in
    let was = c.args.was.now in
    let locks : c.as_slice.result.now ≡ map (is_recent ring.min_hours c.args.hour) ring.moved =
    c.as_slice.ensures.value ∙ c.in_ok-locked.ensures in
    let same : c.as_slice-2.result.now ≡ c.as_slice.result.now = c.as_slice-2.ensures.value ∙ sym
    c.as_slice.ensures.value in
    let wants : was.wanted ≡ c.args.was.now.wanted =
    refl in
    let first = subst (λ r. IsPass First c.args.order.now was c.gather.new.kept
    c.as_slice.result.now r c.gather.new.seats) (c.in_ok-seats.ensures ∙ c.requires.old) c.gather.ensures.pass in
    let later = subst (λ (l : List Bool). AreLater c.args.order.now was c.gather_surplus.new.kept l
    c.gather.new.seats c.gather_surplus.new.seats) same c.gather_surplus.ensures.later in
    is_gathered ring c.args.hour was c.gather.new.kept c.gather_surplus.new.kept
    c.args.was.now.wanted c.as_slice.result.now c.args.order.now c.gather.new.seats
    c.gather_surplus.new.seats
    c.requires.valid c.requires.was.wanted c.requires.was.devices wants
    c.requires.was.counts locks c.requires.order first
    (second_alone ring c.args.hour was c.gather.new.kept later.between c.gather_surplus.new.kept
    c.args.was.now.wanted c.as_slice.result.now c.args.order.now c.gather.new.seats
    later.middle c.gather_surplus.new.seats c.requires.valid c.requires.was.devices wants
    c.requires.was.counts locks c.requires.order c.gather.ensures.rows first later.apart later.second
    later.falls)

pub returns-clause-apart : goal.returns-clause-apart
returns-clause-apart c =
    let ring = c.args.ring.now in
    let was = c.args.was.now in
    let locks : c.as_slice.result.now ≡ map (is_recent ring.min_hours c.args.hour) ring.moved =
    c.as_slice.ensures.value ∙ c.in_ok-locked.ensures in
    let same : c.as_slice-2.result.now ≡ c.as_slice.result.now = c.as_slice-2.ensures.value ∙ sym
    c.as_slice.ensures.value in
    let wants : was.wanted ≡ c.args.was.now.wanted =
    refl in
    let first = subst (λ r. IsPass First c.args.order.now was c.gather.new.kept
    c.as_slice.result.now r c.gather.new.seats) (c.in_ok-seats.ensures ∙ c.requires.old) c.gather.ensures.pass in
    let later = subst (λ (l : List Bool). AreLater c.args.order.now was c.gather_surplus.new.kept l
    c.gather.new.seats c.gather_surplus.new.seats) same c.gather_surplus.ensures.later in
    let items = later.second.filled.wanted_are ∙ wants in
    subst (λ w. GivesApartFirst ring c.args.hour w (gathered_in c.gather_surplus.new.seats))
    (sym items)
    (ring_gives_apart ring c.args.hour was c.gather.new.kept later.between
    c.gather_surplus.new.kept
    c.args.was.now.wanted c.as_slice.result.now c.args.order.now c.gather.new.seats
    later.middle c.gather_surplus.new.seats c.requires.valid c.requires.was.devices wants
    c.requires.was.counts locks c.requires.order c.gather.ensures.rows first later.apart later.second
    later.falls)

pub returns-then-not-has_some_room-clause-apart : goal.returns-then-not-has_some_room-clause-apart
returns-then-not-has_some_room-clause-apart c =
    let was = c.args.was.now in
    none_apart c.args.ring.now c.args.hour was c.gather.new.kept.wanted c.gather.new.seats
    c.requires.was.devices (sym c.gather.ensures.pass.filled.wanted_are)
    c.requires.was.counts (c.has_some_room.ensures.none c.if-not-has_some_room.true)

pub returns-then-not-has_some_room-clause-by_name : goal.returns-then-not-has_some_room-clause-by_name
returns-then-not-has_some_room-clause-by_name c =
    let ring = c.args.ring.now in
    let hour = c.args.hour in
    let order = c.args.order.now in
    let was = c.args.was.now in
    let is : was ≡ load_of ring was.wanted = load_is ring was c.requires.was.load
    c.requires.was.devices c.requires.was.counts in
    let locks : c.as_slice.result.now ≡ locks_of ring hour =
    c.as_slice.ensures.value ∙ c.in_ok-locked.ensures in
    let first = c.gather.ensures.by_name ∙ left_first ring was.wanted hour order was c.in_ok-kept.kept
    c.in_ok-seats.seats c.as_slice.result.now is c.in_ok-kept.ensures (c.in_ok-seats.ensures ∙ c.requires.old) locks in
    first ∙ left_once ring was.wanted hour order was is
    (sym c.has_some_room.ensures.by_name ∙ c.if-not-has_some_room.true)
    ∙ ap (λ w. left_of ring w hour order) (sym c.gather.ensures.pass.filled.wanted_are)

pub returns-clause-by_name : goal.returns-clause-by_name
returns-clause-by_name c =
    let ring = c.args.ring.now in
    let hour = c.args.hour in
    let order = c.args.order.now in
    let was = c.args.was.now in
    let is : was ≡ load_of ring was.wanted = load_is ring was c.requires.was.load
    c.requires.was.devices c.requires.was.counts in
    let locks : c.as_slice.result.now ≡ locks_of ring hour =
    c.as_slice.ensures.value ∙ c.in_ok-locked.ensures in
    let first = c.gather.ensures.by_name ∙ left_first ring was.wanted hour order was c.in_ok-kept.kept
    c.in_ok-seats.seats c.as_slice.result.now is c.in_ok-kept.ensures (c.in_ok-seats.ensures ∙ c.requires.old) locks in
    let also : c.as_slice-2.result.now ≡ locks_of ring hour =
    c.as_slice-2.ensures.value ∙ c.in_ok-locked.ensures in
    c.gather_surplus.ensures.by_name ∙ left_whole ring was.wanted hour order was
    c.as_slice-2.result.now (record { load = c.gather.new.kept; rows = c.gather.new.seats }) is also
    first (sym c.has_some_room.ensures.by_name ∙ c.if-not-has_some_room.false)
    ∙ ap (λ w. left_of ring w hour order) (sym c.gather_surplus.ensures.later.second.filled.wanted_are)

pub returns-then-not-has_some_room-clause-wanted : goal.returns-then-not-has_some_room-clause-wanted
returns-then-not-has_some_room-clause-wanted c = c.gather.ensures.pass.filled.wanted_are

pub returns-clause-wanted : goal.returns-clause-wanted
returns-clause-wanted c = c.gather_surplus.ensures.later.second.filled.wanted_are
