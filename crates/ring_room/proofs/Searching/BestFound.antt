-- What a search finds by name is a least crowded device.
use Rattle.std.proofs.Common.{◌≡◌, ◌∙◌, ℕ, zero, suc, ◌+◌, ◌<◌, ◌≤◌, ◌%◌, ◌&&◌, Bool, true, false, cond, refl}
use Rattle.std.proofs.Common.{List, length, get_or, Option, Some, None, ap, sym, subst, arith}
use Rattle.std.proofs.Math.Numerals.{add-one}
use Rattle.std.proofs.lemmas.Nat.{mod_below}
use Rattle.std.specs.Option.{option_map}
use Rattle.ring_share.specs.Crowd.{is_less, is_outside}
use Rattle.ring_room.specs.Inner.Lists.{AreRoomy}
use Rattle.ring_room.specs.Inner.Places.{IsBestSoFar}
use Rattle.ring_room.specs.Load.{Load, IsLeast, crowd_in, has_room_in, is_free_in}
use Rattle.ring_room.specs.Places.{id_at, place_after}
use Rattle.ring_room.specs.Search.{best_after, best_of_all, least_place, lesser_of, roomy_places}
use Rattle.ring_room.proofs.Searching.BestSoFar.{best_first, best_keep, best_skip, best_take}
use Rattle.ring_room.proofs.Searching.ByName.{after_within, best_more, best_none}
use Rattle.ring_room.proofs.Searching.FreeOutside.{least_at_end, none_at_end, none_roomy}

both : (a b : Bool) → a ≡ true → (a && b) ≡ b
both true b h = refl
both false b h = absurd (cc h)

-- one more step
next_best : (load : Load) (row : List (Option ℕ)) (places : List ℕ) (start step place : ℕ)
    (best : Option (ℕ × (ℕ × ℕ × ℕ))) (outside : Bool)
    → place ≡ get_or places (place_after (length places) start step) 0 → place < length load.devices
    → has_room_in load (id_at load.devices place) ≡ true
    → is_outside row (id_at load.devices place) ≡ outside
    → IsBestSoFar places start step load row best
    → IsBestSoFar places start (step + 1) load row (cond outside (lesser_of best
    (place, crowd_in load row (id_at load.devices place))) best)
next_best load row places start step place best false at lt room out so_far =
    best_skip load row places start step place best at so_far
    (both (has_room_in load (id_at load.devices place)) (is_outside row (id_at load.devices place))
    room ∙ out)
next_best load row places start step place None true at lt room out so_far = (
  best_first load row places start step place at lt so_far
      (both (has_room_in load (id_at load.devices place))
      (is_outside row (id_at load.devices place)) room ∙ out),
  refl,
)
next_best load row places start step place (Some best) true at lt room out so_far =
    or_less (is_less (crowd_in load row (id_at load.devices place)) best.1) refl
  where
    or_less : (less : Bool) → is_less (crowd_in load row (id_at load.devices place)) best.1 ≡ less
        → IsBestSoFar places start (step + 1) load row (cond less
        (Some (place, crowd_in load row (id_at load.devices place))) (Some best))
    or_less true less = (
      best_take load row places start step place best.0 at lt so_far.0
          (both (has_room_in load (id_at load.devices place))
          (is_outside row (id_at load.devices place)) room ∙ out)
          (ap (is_less (crowd_in load row (id_at load.devices place))) (sym so_far.1) ∙ less),
      refl,
    )
    or_less false less = (
      best_keep load row places start step place best.0 at so_far.0
          (ap (is_less (crowd_in load row (id_at load.devices place))) (sym so_far.1) ∙ less),
      so_far.1,
    )

-- the best of so many steps
best_is : (load : Load) (row : List (Option ℕ)) (places : List ℕ) (start : ℕ) → AreRoomy load places
    → start < length places → (steps : ℕ) → steps ≤ length places
    → IsBestSoFar places start steps load row (best_after load row places start steps)
best_is load row places start are lt zero le =
    subst (IsBestSoFar places start 0 load row) (sym (best_none load row places start))
    (λ step below. absurd (omega (arith, below)))
best_is load row places start are lt (suc steps) le =
    let below : steps < length places = omega (arith, le) in
    let index = place_after (length places) start steps in
    let within = after_within (length places) start steps lt below in
    let place = get_or places index 0 in
    let so_far = best_is load row places start are lt steps (omega (arith, le)) in
    let next = next_best load row places start steps place
    (best_after load row places start steps)
    (is_outside row (id_at load.devices place)) refl (are.within index 0 within)
    (are.roomy index 0 within) refl so_far in
    subst (λ n. IsBestSoFar places start n load row (best_after load row places start n))
    (add-one steps)
    (subst (IsBestSoFar places start (steps + 1) load row)
    (sym (best_more load row places start steps)) next)

found_of : (load : Load) (row : List (Option ℕ)) (places : List ℕ) (start id : ℕ) → AreRoomy load places
    → start < length places → is_free_in load row id ≡ true
    → (best : Option (ℕ × (ℕ × ℕ × ℕ))) → IsBestSoFar places start (length places) load row best
    → (place : ℕ) × (option_map (λ (b : ℕ × (ℕ × ℕ × ℕ)). b.0) best ≡ Some place) × IsLeast load row
    (id_at load.devices place)
found_of load row places start id are lt free None is =
    let shut = none_at_end load row row places start refl are lt is id in
    absurd (cc (shut, free))
found_of load row places start id are lt free (Some best) is = (
  best.0,
  refl,
  least_at_end load row row places start best.0 (id_at load.devices best.0) refl are lt refl is.0,
)

-- where a device is free a least crowded one is found
pub least_found : (load : Load) (row : List (Option ℕ)) (draw id : ℕ)
    → AreRoomy load (roomy_places load) → is_free_in load row id ≡ true
    → (place : ℕ) × (least_place load row draw ≡ Some place) × IsLeast load row
    (id_at load.devices place)
least_found load row draw id are free =
    some (length (roomy_places load)) refl
  where
    some : (count : ℕ) → length (roomy_places load) ≡ count
        → (place : ℕ) × (least_place load row draw ≡ Some place) × IsLeast load row
        (id_at load.devices place)
    some zero none =
        let shut = none_roomy load row (roomy_places load) are none id in
        absurd (cc (shut, free))
    some (suc count) more =
        let places = roomy_places load in
        let start = draw % length places in
        let lt = mod_below draw (length places) (omega (arith, more)) in
        found_of load row places start id are lt free (best_of_all load row places start)
        (best_is load row places start are lt (length places) (omega arith))
