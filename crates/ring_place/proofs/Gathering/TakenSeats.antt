-- Seats that are taken off devices.
use Rattle.std.proofs.Common.{◌≡◌, ◌≢◌, ◌==◌, ℕ, ◌+◌, ◌-◌, ◌<◌, ◌≤◌, true, cond, List, set, Option}
use Rattle.std.proofs.Common.{Some, None, refl, sym, ap, subst, ◌∙◌, ⊎_elim, arith}
use Rattle.std.specs.Prelude.{slice_get}
use Rattle.std.proofs.lemmas.Bool.{cases_eq, eq-eqb, ne_eqb}
use Rattle.std.proofs.lemmas.List.{get_or-set_other, get_or-set_same, length-set}
use Rattle.ring_model.specs.Ring.{has_device}
use Rattle.ring_share.specs.Crowd.{seats_on}
use Rattle.ring_share.specs.Room.{place_of}
use Rattle.ring_room.specs.Load.{Load, IsLoad, have_in, load_take, want_in}
use Rattle.ring_place.specs.Inner.Gathering.{Falls, Lifts, Takes}
use Rattle.ring_room.proofs.Searching.SeatCounts.{place_within, places_differ}
use Rattle.ring_room.proofs.Searching.LessCrowded.{seats_with}

pub load_taken : (load : Load) (id : ℕ) → IsLoad load → IsLoad (load_take load id)
load_taken load id is = record {
  rise = is.rise;
  few = is.few;
  wants = is.wants;
  counted = length-set load.counts (place_of id load.devices) (have_in load id - 1) ∙ is.counted;
}

pub have_taken_same : (load : Load) → IsLoad load → (id : ℕ) → has_device id load.devices ≡ true →
    have_in (load_take load id) id ≡ have_in load id - 1
have_taken_same load is id known = get_or-set_same load.counts (place_of id load.devices)
    (have_in load id - 1) 0 (place_within load is id known)

pub have_taken_other : (load : Load) → IsLoad load → (id other : ℕ) →
    has_device id load.devices ≡ true → has_device other load.devices ≡ true → other ≢ id →
    have_in (load_take load id) other ≡ have_in load other
have_taken_other load is id other known also ne =
    get_or-set_other load.counts (place_of id load.devices) (place_of other load.devices)
    (have_in load id - 1) 0 (places_differ load is id other known also ne)

-- one seat less is on the device that it was taken off, and on no other
pub take_less : (load : Load) → IsLoad load → (id other : ℕ) → has_device id load.devices ≡ true →
    has_device other load.devices ≡ true → 0 < have_in load id
    → have_in (load_take load id) other + cond (id == other) 1 0 ≡ have_in load other
take_less load is id other known also some = ⊎_elim
    (λ same.
    let one : ◌≡◌ {A = ℕ} (cond (id == other) 1 0) 1 = rw (eq-eqb id other (sym same)) refl in
    let new = ap (have_in (load_take load id)) same ∙ have_taken_same load is id known in
    let old = ap (have_in load) same in
    omega (arith, one, new, old, some))
    (λ apart.
    let none : ◌≡◌ {A = ℕ} (cond (id == other) 1 0) 0 = rw (ne_eqb id other (λ e. apart (sym e)))
    refl in
    let new = have_taken_other load is id other known also apart in
    omega (arith, none, new))
    (cases_eq other id)

pub takes_none : (load : Load) (row : List (Option ℕ)) → IsLoad load → Takes load load row row
takes_none load row is = record {
  devices = refl;
  wanted = refl;
  load = is;
  counts =
      λ id known. refl;
}

-- one more seat is lifted
pub takes_seat : (before left : Load) (old row : List (Option ℕ)) (replica id : ℕ) →
    Takes before left old row → has_device id before.devices ≡ true → 0 < have_in left id
    → slice_get row replica ≡ Some (Some id) → Takes before (load_take left id) old
    (set row replica None)
takes_seat before left old row replica id takes known some at = record {
  devices = takes.devices;
  wanted = takes.wanted;
  load = load_taken left id takes.load;
  counts = λ other also.
      let there = λ (n : ℕ) (h : has_device n before.devices ≡ true). ap (has_device n)
      takes.devices ∙ h in
      let counted = takes.counts other also in
      let lifted = seats_with row replica id other at in
      let less = take_less left takes.load id other (ap (has_device id) takes.devices ∙ known)
      (ap (has_device other) takes.devices ∙ also) some in
      omega (arith, counted, lifted, less);
}

-- one seat of a partition is lifted
pub takes_one : (before after : Load) (row new : List (Option ℕ)) (replica id : ℕ) → IsLoad before →
    has_device id before.devices ≡ true → 0 < have_in before id → Lifts row new replica id →
    after ≡ load_take before id → Takes before after row new
takes_one before after row new replica id is known some lifts taken =
    subst (λ k. Takes before k row new) (sym taken)
    (subst (λ r. Takes before (load_take before id) row r) (sym lifts.lifted)
    (takes_seat before before row row replica id (takes_none before row is) known some lifts.at))

-- so no device has more, and the one that it was taken off still has all that it wants
pub falls_one : (before after : Load) (id : ℕ) → IsLoad before → has_device id before.devices ≡ true
    → want_in before id < have_in before id → after ≡ load_take before id → Falls before after
falls_one before after id is known over taken = subst (Falls before) (sym taken) (record {
  down = λ other also.
      let less = take_less before is id other known also (omega (arith, over)) in
      omega (arith, less);
  floor = λ other also keeps.
      let less = take_less before is id other known also (omega (arith, over)) in
      ⊎_elim
      (λ same.
      let here = have_taken_same before is id known in
      let read = ap (have_in (load_take before id)) same in
      let wants = ap (want_in before) same in
      omega (arith, here, read, wants, over))
      (λ apart.
      let there = have_taken_other before is id other known also apart in
      omega (arith, there, keeps))
      (cases_eq other id);
})

-- a partition has no more seats on a device than the device has
pub has_taken : (left : Load) (row : List (Option ℕ)) (replica id other : ℕ) → IsLoad left →
    has_device id left.devices ≡ true → has_device other left.devices ≡ true
    → slice_get row replica ≡ Some (Some id) → 0 < have_in left id →
    seats_on other row ≤ have_in left other → seats_on other (set row replica None) ≤ have_in
    (load_take left id) other
has_taken left row replica id other is known also at some has =
    let lifted = seats_with row replica id other at in
    let less = take_less left is id other known also some in
    omega (arith, lifted, less, has)
