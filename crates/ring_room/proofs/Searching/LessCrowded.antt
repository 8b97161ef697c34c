-- Devices outside a partition with room, and how crowded they are for a seat.
use Rattle.std.proofs.Common.{◌≡◌, ◌==◌, ℕ, ◌+◌, ◌<◌, Bool, true, false, cond, ◌&&◌, ◌||◌, List, []}
use Rattle.std.proofs.Common.{◌∷◌, get_or, Option, Some, None, refl, sym, ap, ◌∙◌, ⊎_elim}
use Rattle.std.proofs.Common.{arith}
use Rattle.std.specs.Prelude.{slice_get}
use Rattle.std.specs.List.{list_any}
use Rattle.std.proofs.lemmas.Bool.{and_left, and_parts, and_right, cases_eq, eq-eqb, eqb-true}
use Rattle.std.proofs.lemmas.Bool.{ne_eqb}
use Rattle.std.proofs.lemmas.List.Folds.{Any-from_list_any, list_any_at, list_any_none}
use Rattle.std.proofs.lemmas.List.Sums.{sum_by-set}
use Rattle.std.proofs.lemmas.Option.{get_or_from_slice_get, slice_get_within}
use Rattle.ring_model.specs.Ring.{has_device}
use Rattle.ring_words.specs.declared.device.Device.{Device}
use Rattle.ring_share.specs.Crowd.{is_less, is_on, others, seats_on}
use Rattle.ring_share.specs.Room.{has_open}
use Rattle.ring_share.specs.Want.{is_open}
use Rattle.ring_room.specs.Load.{Load, IsLeast, crowd_in, has_room_in, is_free_in, seats_of}
use Rattle.ring_room.specs.Rows.{devices_on}
use Rattle.ring_room.specs.Free.{has_free_in, has_less_in, is_crowded_in}
use Rattle.ring_room.proofs.Searching.BestSoFar.{not_less_self, not_less_trans}
use Rattle.ring_room.proofs.Searching.RowDevices.{crowd_taken, free_taken, least_taken}

-- two tests that agree find the same
pub list_any_agree : {X : Type 0} (p q : X → Bool) → ((x : X) → p x ≡ q x) → (xs : List X) →
    list_any p xs ≡ list_any q xs
list_any_agree p q agree [] = refl
list_any_agree p q agree (x ∷ xs) = ap (λ b. b || list_any p xs) (agree x) ∙ ap (λ b. q x ||
    b) (list_any_agree p q agree xs)

-- a device that is open is found by each test that its number passes
pub found_open : (devices : List Device) (test : ℕ → Bool) (id : ℕ) → has_open id devices ≡ true →
    test id ≡ true → list_any (λ (device : Device). test device.id) devices ≡ true
found_open devices test id opens passes =
    let found = Any-from_list_any (λ (device : Device). (device.id == id) && is_open device) devices
    opens in
    let named : found.1.id ≡ id = eqb-true _ _ (and_parts (found.1.id == id) (is_open found.1)
    found.4).0 in
    list_any_at (λ (device : Device). test device.id) devices found.0 found.1 found.2
    (ap (λ (device : Device). test device.id) found.3 ∙ ap test named ∙ passes)

-- and it is a device
pub open_known : (devices : List Device) (id : ℕ) → has_open id devices ≡ true →
    has_device id devices ≡ true
open_known devices id opens = found_open devices (λ other. other == id) id opens (eq-eqb id id refl)

pub free_open : (load : Load) (row : List (Option ℕ)) (id : ℕ) → is_free_in load row id ≡ true →
    has_open id load.devices ≡ true
free_open load row id free =
    (and_parts (has_open id load.devices) _ (and_parts (has_room_in load id) _ free).0).0

-- none is found where none is free
pub none_free : (load : Load) (row : List (Option ℕ)) → ((id : ℕ) → is_free_in load row id ≡ false)
    → has_free_in load row ≡ false
none_free load row none = list_any_none (λ (device : Device). is_free_in load row device.id)
    load.devices (λ k d lt. none (get_or load.devices k d).id)

pub one_free : (load : Load) (row : List (Option ℕ)) (id : ℕ) → is_free_in load row id ≡ true →
    has_free_in load row ≡ true
one_free load row id free = found_open load.devices (is_free_in load row) id
    (free_open load row id free) free

-- and whether some free device is less crowded than a device
pub less_none : (load : Load) (row : List (Option ℕ)) (id : ℕ) →
    ((other : ℕ) → is_free_in load (seats_of (devices_on row)) other ≡ false) →
    false ≡ has_less_in load row row id
less_none load row id none =
    sym (list_any_none (λ (device : Device). is_free_in load row device.id &&
    is_less (crowd_in load row device.id) (crowd_in load row id)) load.devices
    (λ k d lt. and_left (is_free_in load row (get_or load.devices k d).id) _
    (sym (free_taken load row (get_or load.devices k d).id) ∙ none
    (get_or load.devices k d).id)))

pub less_some : (load : Load) (row : List (Option ℕ)) (id best : ℕ) (b : Bool) →
    IsLeast load row best → b ≡ is_less (crowd_in load row best) (crowd_in load row id) →
    b ≡ has_less_in load row row id
less_some load row id best true least less =
    sym (found_open load.devices (λ other. is_free_in load row other &&
    is_less (crowd_in load row other) (crowd_in load row id)) best (free_open load row best
    least.free)
    (rw (least.free, sym less) refl))
less_some load row id best false least less =
    sym (list_any_none (λ (device : Device). is_free_in load row device.id &&
    is_less (crowd_in load row device.id) (crowd_in load row id)) load.devices
    (λ k d lt. fails (get_or load.devices k d).id (is_free_in load row (get_or load.devices k d).id)
    refl))
  where
    fails : (other : ℕ) (c : Bool) → is_free_in load row other ≡ c → (is_free_in load row other &&
        is_less (crowd_in load row other) (crowd_in load row id)) ≡ false
    fails other false is = and_left (is_free_in load row other) _ is
    fails other true is =
        and_right (is_free_in load row other) _ (not_less_trans (crowd_in load row other)
        (crowd_in load row best) (crowd_in load row id) (least.least other is) (sym less))

pub less_found : (load : Load) (row : List (Option ℕ)) (id best : ℕ) (b : Bool) (one two : ℕ × ℕ ×
    ℕ) → IsLeast load (seats_of (devices_on row)) best → b ≡ is_less one two
    → one ≡ crowd_in load (seats_of (devices_on row)) best →
    two ≡ crowd_in load (seats_of (devices_on row)) id → b ≡ has_less_in load row row id
less_found load row id best b one two least less is_one is_two =
    less_some load row id best b (least_taken load row best least) (less ∙ ap (λ c. is_less c two)
    (is_one ∙ crowd_taken load row best) ∙ ap (λ c. is_less (crowd_in load row best) c)
    (is_two ∙ crowd_taken load row id))

-- ---- a seat and the others of its partition

-- a seat counts one on its device
pub seats_with : (row : List (Option ℕ)) (replica id other : ℕ) →
    slice_get row replica ≡ Some (Some id) → seats_on other row ≡ seats_on other
    (others row replica) + cond (id == other) 1 0
seats_with row replica id other at =
    let within = slice_get_within row replica (Some id) at in
    let read = get_or_from_slice_get row replica (Some id) None at in
    let counted = sum_by-set (λ (s : Option ℕ). cond (is_on (λ e. e == other) s) 1 0) row replica
    None None within in
    let here = ap {B = ℕ} (λ (s : Option ℕ). cond (is_on (λ e. e == other) s) 1 0) read in
    omega (arith, counted, here)

pub one_here : (row : List (Option ℕ)) (replica id : ℕ) → slice_get row replica ≡ Some (Some id) →
    0 < seats_on id row
one_here row replica id at =
    let counted = seats_with row replica id id at in
    let one : ◌≡◌ {A = ℕ} (cond (id == id) 1 0) 1 = rw (eq-eqb id id refl) refl in
    omega (arith, counted, one)

-- without its own seat a device isn't less crowded than itself, and the other devices are outside
-- as before
crowded_at : (load : Load) (row : List (Option ℕ)) (replica id other : ℕ) →
    slice_get row replica ≡ Some (Some id)
    → (is_free_in load (others row replica) other &&
    is_less (crowd_in load (others row replica) other) (crowd_in load (others row replica) id))
    ≡ (is_free_in load row other && is_less (crowd_in load (others row replica) other)
    (crowd_in load (others row replica) id))
crowded_at load row replica id other at =
    let less = is_less (crowd_in load (others row replica) other)
    (crowd_in load (others row replica) id) in
    ⊎_elim
    (λ same.
    let never : less ≡ false = ap (λ d. is_less (crowd_in load (others row replica) d)
    (crowd_in load (others row replica) id)) (sym same) ∙ not_less_self
    (crowd_in load (others row replica) id) in
    and_right (is_free_in load (others row replica) other) less never ∙ sym
    (and_right (is_free_in load row other) less never))
    (λ apart.
    let counted = seats_with row replica id other at in
    let none : ◌≡◌ {A = ℕ} (cond (id == other) 1 0) 0 = rw (ne_eqb id other apart) refl in
    let seats : seats_on other (others row replica) ≡ seats_on other row =
    omega (arith, counted, none) in
    ap (λ (n : ℕ). (has_room_in load other && (n == 0)) && less) seats)
    (cases_eq id other)

pub crowded_same : (load : Load) (row : List (Option ℕ)) (replica id : ℕ) →
    slice_get row replica ≡ Some (Some id)
    → has_less_in load (others row replica) (others row replica) id ≡ is_crowded_in load row replica
    id
crowded_same load row replica id at = list_any_agree _ _ (λ (device : Device). crowded_at load row
    replica id device.id at) load.devices
