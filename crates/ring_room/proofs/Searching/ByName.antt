-- The places with room, and the best device of a search, by name.
use Rattle.std.proofs.Common.{◌≡◌, ℕ, zero, suc, ◌+◌, ◌-◌, ◌<◌, ◌≤◌, ◌%◌, Bool, true, false, not, cond, ◌&&◌, List, []}
use Rattle.std.proofs.Common.{◌∷◌, ◌++◌, length, get_or, set, take, Option, Some, None, refl, sym, ap, ◌∙◌, arith}
use Rattle.std.specs.Prelude.{slice_index}
use Rattle.std.proofs.Math.Numerals.{add-one}
use Rattle.std.proofs.Common.{◌≢◌, below_more, subst, ⊎_elim}
use Rattle.std.proofs.lemmas.Bool.{cases_eq}
use Rattle.std.proofs.lemmas.Bool.Decides.{nat_tests}
use Rattle.std.proofs.lemmas.List.{append-nil, take_more_set, get_or-set_other, get_or-set_same}
use Rattle.ring_share.specs.Crowd.{is_less, is_outside}
use Rattle.std.specs.Option.{option_map}
use Rattle.ring_share.specs.Room.{has_open, place_of}
use Rattle.ring_room.specs.Load.{Load, crowd_in, has_room_in, is_free_in}
use Rattle.ring_room.specs.Inner.Lists.{IsFloor}
use Rattle.ring_room.specs.Search.{best_after, best_of_all, better_of, least_place, lesser_of}
use Rattle.ring_room.specs.Search.{own_or_place, roomy_at, roomy_below, roomy_places}
use Rattle.ring_room.specs.Places.{id_at, place_after}
use Rattle.ring_room.specs.Inner.Places.{is_within}
use Rattle.std.proofs.Common.{All, ◌==◌, map}
use Rattle.std.specs.Prelude.{slice_get, IfNone}
use Rattle.std.specs.List.{list_any}
use Rattle.std.specs.List.Sorted.{IsStrictlyIncreasing}
use Rattle.ring_words.specs.declared.device.Device.{Device}
use Rattle.ring_share.specs.Want.{is_open}
use Rattle.ring_room.specs.Search.{is_open_outside}
use Rattle.ring_room.specs.Places.{seats_at}
use Rattle.ring_room.proofs.Searching.DevicesAt.{id_at_is, open_at}
use Rattle.ring_room.proofs.Searching.FreeOutside.{outside_at}
use Rattle.ring_room.proofs.Searching.BestSoFar.{not_less_trans}

-- ---- the places with room

below_suc : (load : Load) (place : ℕ) → roomy_below load (suc place) ≡ roomy_below load place ++
    roomy_at load place
unfolding roomy_below
below_suc load place = refl

pub roomy_more : (load : Load) (place : ℕ) → roomy_below load (place + 1) ≡ roomy_below load place ++
    roomy_at load place
roomy_more load place = ap (roomy_below load) (add-one place) ∙ below_suc load place

-- one more place is listed
pub listed_more : (load : Load) (places : List ℕ) (count place : ℕ) → count < length places →
    take count places ≡ roomy_below load place → has_room_in load (id_at load.devices place) ≡ true →
    take (count + 1) (set places count place) ≡ roomy_below load (place + 1)
listed_more load places count place lt so_far room =
    take_more_set places count place lt ∙ ap (λ xs. xs ++ place ∷ []) so_far
    ∙ ap (λ b. roomy_below load place ++ cond b (place ∷ []) []) (sym room)
    ∙ sym (roomy_more load place)

-- or it has no room
pub listed_same : (load : Load) (places : List ℕ) (count place : ℕ) →
    take count places ≡ roomy_below load place → has_room_in load (id_at load.devices place) ≡ false →
    take count places ≡ roomy_below load (place + 1)
listed_same load places count place so_far room =
    so_far ∙ sym (append-nil (roomy_below load place))
    ∙ ap (λ b. roomy_below load place ++ cond b (place ∷ []) []) (sym room)
    ∙ sym (roomy_more load place)

none_below : (load : Load) → roomy_below load 0 ≡ []
unfolding roomy_below
none_below load = refl

pub none_listed_yet : (load : Load) (places : List ℕ) → take 0 places ≡ roomy_below load 0
none_listed_yet load places = sym (none_below load)

-- where each device has room as before, the places are the same
pub same_below : (load other : Load) → other.devices ≡ load.devices → (place : ℕ)
    → ((k : ℕ) → k < place → has_room_in other (id_at load.devices k) ≡ has_room_in load (id_at load.devices k))
    → roomy_below other place ≡ roomy_below load place
same_below load other devices zero same = none_below other ∙ sym (none_below load)
same_below load other devices (suc place) same =
    below_suc other place
    ∙ ap (λ xs. xs ++ roomy_at other place) (same_below load other devices place
    (λ k lt. same k (omega (arith, lt))))
    ∙ ap (λ ds. roomy_below load place ++ cond (has_room_in other (id_at ds place)) (place ∷ []) []) devices
    ∙ ap (λ b. roomy_below load place ++ cond b (place ∷ []) []) (same place (omega arith))
    ∙ sym (below_suc load place)

-- ---- the search

best_suc : (load : Load) (row : List (Option ℕ)) (places : List ℕ) (start steps : ℕ)
    → best_after load row places start (suc steps) ≡ better_of load row
    (slice_index places (place_after (length places) start steps))
    (best_after load row places start steps)
unfolding best_after
best_suc load row places start steps = refl

pub best_none : (load : Load) (row : List (Option ℕ)) (places : List ℕ) (start : ℕ)
    → best_after load row places start 0 ≡ None
unfolding best_after
best_none load row places start = refl

pub best_more : (load : Load) (row : List (Option ℕ)) (places : List ℕ) (start steps : ℕ)
    → best_after load row places start (steps + 1) ≡ better_of load row
    (slice_index places (place_after (length places) start steps))
    (best_after load row places start steps)
best_more load row places start steps = ap (best_after load row places start) (add-one steps)
    ∙ best_suc load row places start steps

pub after_within : (count start step : ℕ) → start < count → step < count → place_after count start step < count
after_within count start step lt mt = grind (arith, nat_tests)

better_stays : (load : Load) (row : List (Option ℕ)) (place : ℕ) (best : ℕ × (ℕ × ℕ × ℕ))
    (floor : ℕ × ℕ × ℕ) → IsFloor load row floor → has_open (id_at load.devices place) load.devices ≡ true
    → is_less floor best.1 ≡ false → better_of load row place (Some best) ≡ Some best
better_stays load row place best floor is opens low =
    let id = id_at load.devices place in
    let no : is_less (crowd_in load row id) best.1 ≡ false =
    not_less_trans (crowd_in load row id) floor best.1 (is id opens) low in
    elim (is_outside row id) as (λ b. cond b (lesser_of (Some best) (place, crowd_in load row id)) (Some best) ≡ Some best) [
      | true ↦ ap (λ b. cond b (Some (place, crowd_in load row id)) (Some best)) no
      | false ↦ refl
    ]

-- a device no more crowded than a floor stays the best
stays : (load : Load) (row : List (Option ℕ)) (places : List ℕ) (start : ℕ) (best : ℕ × (ℕ × ℕ × ℕ))
    (floor : ℕ × ℕ × ℕ) → IsFloor load row floor
    → ((k : ℕ) → k < length places → has_open (id_at load.devices (slice_index places k)) load.devices ≡ true)
    → start < length places → is_less floor best.1 ≡ false → (from d n : ℕ)
    → best_after load row places start from ≡ Some best → n ≡ from + d → n ≤ length places
    → best_after load row places start n ≡ Some best
stays load row places start best floor is opens lt low from zero n at same le =
    let here : n ≡ from = omega (arith, same) in ap (best_after load row places start) here ∙ at
stays load row places start best floor is opens lt low from (suc d) n at same le =
    let before = from + d in
    let more : n ≡ before + 1 = omega (arith, same) in
    let below : before < length places = omega (arith, more, le) in
    ap (best_after load row places start) more ∙ best_more load row places start before
    ∙ ap (better_of load row (slice_index places (place_after (length places) start before)))
    (stays load row places start best floor is opens lt low from d before at refl (omega (arith, below)))
    ∙ better_stays load row (slice_index places (place_after (length places) start before)) best floor is
    (opens (place_after (length places) start before) (after_within (length places) start before lt below)) low

not_true : (b : Bool) → not b ≡ true → b ≡ false
not_true true h = absurd (cc h)
not_true false h = refl

pub best_at_end : (load : Load) (row : List (Option ℕ)) (places : List ℕ) (start : ℕ)
    (best : Option (ℕ × (ℕ × ℕ × ℕ))) (floor : ℕ × ℕ × ℕ) → IsFloor load row floor
    → ((k : ℕ) → k < length places → has_open (id_at load.devices (slice_index places k)) load.devices ≡ true)
    → start < length places → is_within best floor ≡ true → (from : ℕ) → from ≤ length places
    → best ≡ best_after load row places start from
    → best ≡ best_after load row places start (length places)
best_at_end load row places start None floor is opens lt within from le at = absurd (cc within)
best_at_end load row places start (Some best) floor is opens lt within from le at =
    sym (stays load row places start best floor is opens lt (not_true (is_less floor best.1) within) from
    (length places - from) (length places) (sym at) (omega (arith, le)) (omega arith))

-- the search begins with none
pub start_best : (load : Load) (row : List (Option ℕ)) (places : List ℕ) (start : ℕ)
    → None ≡ best_after load row places start 0
start_best load row places start = sym (best_none load row places start)

-- and goes on with the better
pub more_best : (load : Load) (row : List (Option ℕ)) (places : List ℕ) (start steps : ℕ)
    (so_far best : Option (ℕ × (ℕ × ℕ × ℕ))) → so_far ≡ best_after load row places start steps
    → best ≡ better_of load row (slice_index places (place_after (length places) start steps)) so_far
    → best ≡ best_after load row places start (steps + 1)
more_best load row places start steps so_far best before is = is
    ∙ ap (better_of load row (slice_index places (place_after (length places) start steps))) before
    ∙ sym (best_more load row places start steps)

pub better_skip : (load : Load) (row : List (Option ℕ)) (place : ℕ) (best : Option (ℕ × (ℕ × ℕ × ℕ)))
    → is_outside row (id_at load.devices place) ≡ false → best ≡ better_of load row place best
better_skip load row place best out = ap (λ b. cond b (lesser_of best
    (place, crowd_in load row (id_at load.devices place))) best) (sym out)

pub better_is : (load : Load) (row : List (Option ℕ)) (place : ℕ) (crowd : ℕ × ℕ × ℕ)
    (best : Option (ℕ × (ℕ × ℕ × ℕ))) → is_outside row (id_at load.devices place) ≡ true
    → crowd ≡ crowd_in load row (id_at load.devices place)
    → lesser_of best (place, crowd) ≡ better_of load row place best
better_is load row place crowd best out is = ap (λ c. lesser_of best (place, c)) is
    ∙ ap (λ b. cond b (lesser_of best (place, crowd_in load row (id_at load.devices place))) best) (sym out)

pub lesser_some : (best new : ℕ × (ℕ × ℕ × ℕ)) (b : Bool) → is_less new.1 best.1 ≡ b
    → cond b (Some new) (Some best) ≡ lesser_of (Some best) new
lesser_some best new b is = ap (λ b. cond b (Some new) (Some best)) (sym is)

-- what the search finds
pub roomy_listed : (load now : Load) (roomy items : List ℕ) (count : ℕ) → load ≡ now → items ≡ roomy →
    take count roomy ≡ roomy_places load → take count items ≡ roomy_places now
roomy_listed load now roomy items count same is listed =
    ap (take count) is ∙ listed ∙ ap roomy_places same

pub least_is : (load : Load) (row : List (Option ℕ)) (draw count : ℕ) (places : List ℕ)
    (best : Option (ℕ × (ℕ × ℕ × ℕ))) → places ≡ roomy_places load → length places ≡ count
    → best ≡ best_of_all load row places (draw % count)
    → option_map (λ best. best.0) best ≡ least_place load row draw
least_is load row draw count places best listed long is =
    ap (option_map (λ best. best.0)) (is
    ∙ ap (λ n. best_of_all load row places (draw % n)) (sym long)
    ∙ ap (λ ps. best_of_all load row ps (draw % length ps)) listed)

pub least_none : (load : Load) (row : List (Option ℕ)) (draw : ℕ) → length (roomy_places load) ≡ 0
    → None ≡ least_place load row draw
least_none load row draw none =
    ap (option_map (λ best. best.0)) (start_best load row (roomy_places load) (draw % length (roomy_places load))
    ∙ ap (best_after load row (roomy_places load) (draw % length (roomy_places load))) (sym none))

-- ---- the choice between the best and the own

pub own_not_there : (load : Load) (row : List (Option ℕ)) (own : Option ℕ) (o best : ℕ) → own ≡ Some o
    → is_free_in load row o ≡ false → best ≡ own_or_place load row own best
own_not_there load row own o best is full =
    ap (λ b. cond b (cond (is_less (crowd_in load row (id_at load.devices best)) (crowd_in load row o)) best
    (place_of o load.devices)) best) (sym full)
    ∙ ap (λ x. own_or_place load row x best) (sym is)

pub own_compared : (load : Load) (row : List (Option ℕ)) (own : Option ℕ) (o best : ℕ) (b : Bool) → own ≡ Some o
    → is_free_in load row o ≡ true
    → is_less (crowd_in load row (id_at load.devices best)) (crowd_in load row o) ≡ b
    → cond b best (place_of o load.devices) ≡ own_or_place load row own best
own_compared load row own o best b is free less =
    ap (λ b. cond b best (place_of o load.devices)) (sym less)
    ∙ ap (λ b. cond b (cond (is_less (crowd_in load row (id_at load.devices best)) (crowd_in load row o)) best
    (place_of o load.devices)) best) (sym free)
    ∙ ap (λ x. own_or_place load row x best) (sym is)

-- a device with room is opens
pub room_opens : (load : Load) (id : ℕ) → has_room_in load id ≡ true → has_open id load.devices ≡ true
room_opens load id room = both_left (has_open id load.devices) _ room where
  both_left : (a b : Bool) → (a && b) ≡ true → a ≡ true
  both_left true b h = refl
  both_left false b h = absurd (cc h)

-- one more place at the end of those that are listed
pub all_more : (P : ℕ → Type 0) (places : List ℕ) (count place : ℕ) → count < length places
    → ((k : ℕ) → k < count → P (get_or places k 0)) → P place
    → (k : ℕ) → k < count + 1 → P (get_or (set places count place) k 0)
all_more P places count place lt before here k below = ⊎_elim
    (λ at. subst P (sym (ap (λ j. get_or (set places count place) j 0) at
    ∙ get_or-set_same places count place 0 lt)) here)
    (λ differs. subst P (sym (get_or-set_other places count k place 0 differs)) (before k (le_other k count below differs)))
    (cases_eq k count)
  where
    le_other : (k count : ℕ) → k < count + 1 → k ≢ count → k < count
    le_other k count lt differs = omega (arith, lt, differs)

pub found_more : (places : List ℕ) (count place other : ℕ) → count < length places
    → ((k : ℕ) × (k < count) × (get_or places k 0 ≡ other))
    → (k : ℕ) × (k < count + 1) × (get_or (set places count place) k 0 ≡ other)
found_more places count place other lt (k, below, at) = (
  k,
  omega (arith, below),
  get_or-set_other places count k place 0 (less_differs k count below) ∙ at,
)
  where
    less_differs : (k count : ℕ) → k < count → k ≢ count
    less_differs k count lt same = absurd (omega (arith, lt, same))

pub found_here : (places : List ℕ) (count place : ℕ) → count < length places
    → (k : ℕ) × (k < count + 1) × (get_or (set places count place) k 0 ≡ place)
found_here places count place lt = (count, omega arith, get_or-set_same places count place 0 lt)

pub open_outside_at : (devices : List Device) → IsStrictlyIncreasing (map (λ device. device.id) devices)
    → (others : List ℕ) → All (λ other. other < length devices) others → (place : ℕ) (x : Device)
    → place < length devices → slice_get devices place ≡ Some x
    → is_open_outside devices (seats_at devices others) place ≡ (is_open x && not
    (list_any (λ other. other == place) others))
open_outside_at devices rise others all place x lt at =
    let one : has_open (id_at devices place) devices ≡ is_open x =
    ap (λ id. has_open id devices) (id_at_is devices place x at) ∙ open_at devices rise place x at in
    ap (λ b. b && is_outside (seats_at devices others) (id_at devices place)) one
    ∙ ap (λ b. is_open x && b) (outside_at devices rise others place all lt)

-- where there is none, it is none of one more
pub none_more : (test : ℕ → Bool) (best result : Option ℕ) (place : ℕ)
    → IfNone best ((k : ℕ) → k < place → test k ≡ false)
    → IfNone result ((best ≡ None) × (test place ≡ false))
    → IfNone result ((k : ℕ) → k < place + 1 → test k ≡ false)
none_more test best (Some found) place before here = here
none_more test best None place before here =
    below_more _ _ (subst (λ b. IfNone b ((k : ℕ) → k < place → test k ≡ false)) here.0 before) here.1
