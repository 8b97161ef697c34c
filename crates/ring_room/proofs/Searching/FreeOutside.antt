-- Devices outside a partition, by their places.
use Rattle.std.proofs.Common.{◌≡◌, ◌==◌, ℕ, zero, suc, ◌+◌, ◌-◌, ◌<◌, Bool, true, false, not}
use Rattle.std.proofs.Common.{cond, ◌&&◌, ◌||◌, All, List, [], ◌∷◌, length, get_or, map}
use Rattle.std.proofs.Common.{Option, Some, None, refl, sym, ap, subst, ◌∙◌, ⊎_elim, arith}
use Rattle.std.specs.Prelude.{slice_get}
use Rattle.std.specs.List.{list_any}
use Rattle.std.proofs.lemmas.List.Folds.{Any-from_list_any}
use Rattle.std.proofs.lemmas.Option.{slice_get-get_or}
use Rattle.std.specs.List.Sorted.{IsStrictlyIncreasing}
use Rattle.std.proofs.lemmas.Bool.{cases_eq, cases_lt, eq-eqb, ne_eqb, eqb-true}
use Rattle.std.proofs.lemmas.Bool.Decides.{nat_tests}
use Rattle.std.proofs.lemmas.List.Sums.{sum_by-cons}
use Rattle.ring_words.specs.declared.device.Device.{Device}
use Rattle.ring_share.specs.Crowd.{is_less, is_on, seats_on, is_outside}
use Rattle.ring_share.specs.Room.{has_open}
use Rattle.ring_share.specs.Want.{is_open}
use Rattle.ring_share.proofs.Counting.{apart}
use Rattle.ring_room.specs.Load.{Load, IsLeast, IsLoad, crowd_in, has_room_in, is_free_in}
use Rattle.ring_room.specs.Inner.Lists.{AreRoomy}
use Rattle.ring_room.specs.Places.{id_at, seats_at}
use Rattle.ring_room.specs.Inner.Places.{id_after, IsBestOf, IsBestSoFar}
use Rattle.ring_room.specs.Places.{place_after}
use Rattle.ring_room.proofs.Searching.DevicesAt.{id_at_is}

-- a device stands at each place
pub device_there : (devices : List Device) (place : ℕ) → place < length devices → (x : Device) ×
    (slice_get devices place ≡ Some x)
device_there [] place lt = absurd (omega (arith, lt))
device_there (x ∷ xs) zero lt = (x, refl)
device_there (x ∷ xs) (suc place) lt = device_there xs place (omega (arith, lt))

-- devices at two places have one number only where the places are one
pub same_ids : (devices : List Device) → IsStrictlyIncreasing (map (λ device. device.id) devices) →
    (one other : ℕ) → one < length devices → other < length devices
    → (id_at devices one == id_at devices other) ≡ (one == other)
same_ids devices rise one other lt mt =
    let a = device_there devices one lt in
    let b = device_there devices other mt in
    ⊎_elim
    (λ same. eq-eqb _ _ (ap (id_at devices) same) ∙ sym (eq-eqb _ _ same))
    (λ differs. ne_eqb _ _ (λ e. apart devices rise one other a.0 b.0 a.1 b.1 differs
    (sym (id_at_is devices one a.0 a.1) ∙ e ∙ id_at_is devices other b.0 b.1)) ∙ sym
    (ne_eqb _ _ differs))
    (cases_eq one other)

one_more : (b c : Bool) (n : ℕ) → (n == 0) ≡ not c → ((cond b 1 0 + n) == 0) ≡ not (b || c)
one_more true c n is = grind (arith, nat_tests)
one_more false c n is = ap (λ m. m == 0) (let same : 0 + n ≡ n = omega arith in same) ∙ is

pub outside_at : (devices : List Device) → IsStrictlyIncreasing (map (λ device. device.id) devices)
    → (others : List ℕ) (place : ℕ) → All (λ other. other < length devices) others →
    place < length devices
    → is_outside (seats_at devices others) (id_at devices place) ≡ not
    (list_any (λ other. other == place) others)
outside_at devices rise [] place all lt = refl
outside_at devices rise (other ∷ others) place all lt =
    let test = is_on (λ id. id == id_at devices place) in
    let cons : seats_on (id_at devices place) (seats_at devices (other ∷ others)) ≡ cond
    (id_at devices other == id_at devices place) 1 0 + seats_on (id_at devices place)
    (seats_at devices others) =
    sum_by-cons (λ s. cond (test s) 1 0) (Some (id_at devices other)) (seats_at devices others) in
    let same = same_ids devices rise other place (all 0 other (omega arith)) lt in
    ap (λ n. n == 0) (cons ∙ ap (λ b. cond b 1 0 + seats_on (id_at devices place)
    (seats_at devices others)) same)
    ∙ one_more (other == place) (list_any (λ o. o == place) others) _ (outside_at devices rise
    others place (λ k d below. all (suc k) d (omega (arith, below))) lt)

pub free_at : (now : Load) → IsLoad now → (others : List ℕ) (place : ℕ) (among : Bool) →
    All (λ other. other < length now.devices) others → place < length now.devices
    → has_room_in now (id_at now.devices place) ≡ true → among ≡ list_any (λ other. other == place)
    others → not among ≡ is_free_in now (seats_at now.devices others) (id_at now.devices place)
free_at now is others place among all lt room found =
    ap not found ∙ sym (outside_at now.devices is.rise others place all lt) ∙ sym (rw room refl)

-- a device that is open stands at some place
pub place_of_open : (devices : List Device) (id : ℕ) → has_open id devices ≡ true → (place : ℕ) ×
    (place < length devices) × (id_at devices place ≡ id)
place_of_open devices id passes =
    let found = Any-from_list_any (λ (device : Device). (device.id == id) && is_open device) devices
    passes in
    let at : slice_get devices found.0 ≡ Some found.1 = slice_get-get_or devices found.0 found.1
    found.2 ∙ ap Some found.3 in
    let named : (found.1.id == id) ≡ true = (let both = found.4 in grind (arith, nat_tests)) in
    (found.0, found.2, id_at_is devices found.0 found.1 at ∙ eqb-true _ _ named)

-- from each place on each other place comes at some step
pub step_to : (count start place : ℕ) → start < count → place < count → (step : ℕ) ×
    (step < count) × (place_after count start step ≡ place)
step_to count start place lt mt = ⊎_elim
    (λ before. (place + count - start, omega (arith, before, lt, mt), grind (arith, nat_tests)))
    (λ after. (place - start, omega (arith, after, lt, mt), grind (arith, nat_tests)))
    (cases_lt place start)

free_open : (load : Load) (row : List (Option ℕ)) (id : ℕ) → is_free_in load row id ≡ true →
    has_open id load.devices ≡ true
free_open load row id free = grind (arith, nat_tests)

free_room : (load : Load) (row : List (Option ℕ)) (id : ℕ) → is_free_in load row id ≡ true →
    has_room_in load id ≡ true
free_room load row id free = grind (arith, nat_tests)

-- a free device comes at some step
free_step : (load : Load) (row : List (Option ℕ)) (places : List ℕ) (start id : ℕ) →
    AreRoomy load places → start < length places → is_free_in load row id ≡ true
    → (step : ℕ) × (step < length places) × (id_after load places start step ≡ id)
free_step load row places start id are lt free =
    let place = place_of_open load.devices id (free_open load row id free) in
    let listed = are.covered place.0 place.1 (ap (has_room_in load) place.2 ∙ free_room load row id
    free) in
    let step = step_to (length places) start listed.0 lt listed.1 in (
      step.0,
      step.1,
      ap (λ index. id_at load.devices (get_or places index 0)) step.2 ∙ ap
          (id_at load.devices) listed.2 ∙ place.2,
    )

pub least_at_end : (load : Load) (at row : List (Option ℕ)) (places : List ℕ) (start best id : ℕ) →
    at ≡ row → AreRoomy load places → start < length places → id_at load.devices best ≡ id
    → IsBestOf places start (length places) load at best → IsLeast load row id
least_at_end load at row places start best id same are lt named is =
    subst (λ r. IsLeast load r id) same (subst (λ n. IsLeast load at n) named record {
      free = is.free;
      least = λ other free.
          let step = free_step load at places start other are lt free in
          subst (λ n. is_less (crowd_in load at n) (crowd_in load at (id_at load.devices best)) ≡
          false) step.2
          (is.least step.0 step.1 (subst (λ n. is_free_in load at n ≡ true) (sym step.2) free));
    })

-- none is free where none of the roomy is
pub none_free : (load : Load) (row : List (Option ℕ)) (id : ℕ) → (is_free_in load row id ≡ true →
    ⊥) → is_free_in load row id ≡ false
none_free load row id never = decide (is_free_in load row id) refl
  where
    decide : (b : Bool) → is_free_in load row id ≡ b → is_free_in load row id ≡ false
    decide false is = is
    decide true is = absurd (never is)

pub none_at_end : (load : Load) (at row : List (Option ℕ)) (places : List ℕ) (start : ℕ) →
    at ≡ row → AreRoomy load places → start < length places →
    IsBestSoFar places start (length places) load at None
    → (id : ℕ) → is_free_in load row id ≡ false
none_at_end load at row places start same are lt none id = subst (λ r. is_free_in load r id ≡ false)
    same
    (none_free load at id (λ free. let step = free_step load at places start id are lt free in
    let shut = none step.0 step.1 in let open' = subst (λ n. is_free_in load at n ≡ true)
    (sym step.2) free in cc (shut, open')))

-- none is free where none of those with room is
pub none_listed : (load : Load) (row : List (Option ℕ)) (places : List ℕ) → AreRoomy load places
    → ((k : ℕ) → k < length places → is_free_in load row (id_at load.devices (get_or places k 0)) ≡
    false) → (id : ℕ) → is_free_in load row id ≡ false
none_listed load row places are each id =
    none_free load row id (λ free.
    let place = place_of_open load.devices id (free_open load row id free) in
    let listed = are.covered place.0 place.1 (ap (has_room_in load) place.2 ∙ free_room load row id
    free) in
    let never = each listed.0 listed.1 in
    let here : is_free_in load row (id_at load.devices (get_or places listed.0 0)) ≡ true =
    ap (λ p. is_free_in load row (id_at load.devices p)) listed.2 ∙ ap (is_free_in load row)
    place.2 ∙ free in
    absurd (cc (never, here)))

-- so none is where no device has room
pub none_roomy : (load : Load) (row : List (Option ℕ)) (places : List ℕ) → AreRoomy load places →
    length places ≡ 0 → (id : ℕ) → is_free_in load row id ≡ false
none_roomy load row places are none = none_listed load row places are
    (λ k lt. absurd (omega (arith, lt, none)))
