-- What a search takes, by name: a function of how full the devices are, of a partition's other seats
-- and of a draw.
use Rattle.std.specs.Prelude.{ℕ, zero, suc, ◌-◌, ◌%◌, ◌&&◌, ◌||◌, Bool, true, nat_lt, not, if◌then◌else◌}
use Rattle.std.specs.Prelude.{List, [], ◌∷◌, ◌++◌, length, slice_index, Option, Some, None}
use Rattle.std.specs.Option.{option_map}
use Rattle.ring_share.specs.Crowd.{is_less, is_outside}
use Rattle.ring_share.specs.Room.{has_open, place_of}
use Rattle.ring_words.specs.declared.device.Device.{Device}
use Rattle.ring_room.specs.Load.{Load, crowd_in, has_room_in, is_free_in}
use Rattle.ring_room.specs.Places.{id_at, place_after}
use Rattle.ring_room.specs.Steps.{after_steps, or_zero}

-- ---- the devices with room

-- the place, if the device there has room
abbrev pub roomy_at : Load → ℕ → List ℕ
roomy_at load place = if has_room_in load (id_at load.devices place) then place ∷ [] else []

-- the places below one whose devices have room, in their order
unfoldable pub roomy_below : Load → ℕ → List ℕ
roomy_below load zero = []
roomy_below load (suc place) = roomy_below load place ++ roomy_at load place

-- all of them
abbrev pub roomy_places : Load → List ℕ
roomy_places load = roomy_below load (length load.devices)

-- ---- the search

-- the less crowded of the best so far and another, the first of equals
abbrev pub lesser_of : Option (ℕ × (ℕ × ℕ × ℕ)) → ℕ × (ℕ × ℕ × ℕ) → Option (ℕ × (ℕ × ℕ × ℕ))
lesser_of None new = Some new
lesser_of (Some best) new = if is_less new.1 best.1 then Some new else Some best

-- the best so far, or the device at a place if it is outside and less crowded
abbrev pub better_of : Load → List (Option ℕ) → ℕ → Option (ℕ × (ℕ × ℕ × ℕ)) →
    Option (ℕ × (ℕ × ℕ × ℕ))
better_of load row place best = if is_outside row (id_at load.devices place) then lesser_of best
    (place, crowd_in load row (id_at load.devices place)) else best

-- the best of so many steps, from one of some places on
unfoldable pub best_after : Load → List (Option ℕ) → List ℕ → ℕ → ℕ → Option (ℕ × (ℕ × ℕ × ℕ))
best_after load row places start zero = None
best_after load row places start (suc steps) = better_of load row
    (slice_index places (place_after (length places) start steps))
    (best_after load row places start steps)

-- the best of all of them
abbrev pub best_of_all : Load → List (Option ℕ) → List ℕ → ℕ → Option (ℕ × (ℕ × ℕ × ℕ))
best_of_all load row places start = best_after load row places start (length places)

-- the place that a search finds, which begins at a draw
abbrev pub least_place : Load → List (Option ℕ) → ℕ → Option ℕ
least_place load row draw = option_map (λ best. best.0) (best_of_all load row (roomy_places load)
    (draw % length (roomy_places load)))

-- ---- the choice

-- the place that is best, or that of the seat's own device if it is free and no more crowded
abbrev pub own_or_place : Load → List (Option ℕ) → Option ℕ → ℕ → ℕ
own_or_place load row None best = best
own_or_place load row (Some own) best = if is_free_in load row own then
    (if is_less (crowd_in load row (id_at load.devices best)) (crowd_in load row own) then best else
    place_of own load.devices) else best

-- whether the device at a place is open and outside
abbrev pub is_open_outside : List Device → List (Option ℕ) → ℕ → Bool
is_open_outside devices row place = has_open (id_at devices place) devices &&
    is_outside row (id_at devices place)

-- how many more seats the device at a place has than it wants
abbrev pub surplus_at : Load → ℕ → ℕ
surplus_at load place = slice_index load.counts place - slice_index load.wanted place

-- whether the device at one place is better for a seat than that at another where none has room: it
-- is less crowded or, among equals, has fewer seats above its want
abbrev pub is_better_place : Load → List (Option ℕ) → ℕ → ℕ → Bool
is_better_place load row one other =
    is_less (crowd_in load row (id_at load.devices one)) (crowd_in load row (id_at load.devices other)) ||
    (not (is_less (crowd_in load row (id_at load.devices other)) (crowd_in load row
    (id_at load.devices one))) && nat_lt (surplus_at load one) (surplus_at load other))

-- so is any than none
abbrev pub wins : Load → List (Option ℕ) → ℕ → Option ℕ → Bool
wins load row one None = true
wins load row one (Some other) = is_better_place load row one other

-- the best so far, or the device at a place if it is open, outside and better
abbrev pub better_open : Load → List (Option ℕ) → ℕ → Option ℕ → Option ℕ
better_open load row place best = if is_open_outside load.devices row place && wins load row place best
    then Some place else best

-- the place of the best open device outside, the first of equals, 0 where there is none
abbrev pub open_place : Load → List (Option ℕ) → ℕ
open_place load row = or_zero (after_steps (better_open load row) (length load.devices) None)
