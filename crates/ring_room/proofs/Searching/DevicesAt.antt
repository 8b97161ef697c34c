-- Devices at their places.
use Rattle.std.proofs.Common.{◌≡◌, ◌≢◌, ◌==◌, ℕ, ◌+◌, ◌<◌, ◌≤◌, Bool, true, false, not, cond, ◌&&◌}
use Rattle.std.proofs.Common.{All, List, length, get_or, take, map, count_by, Some, None, refl, sym, ap}
use Rattle.std.proofs.Common.{subst, ◌∙◌, ⊎_elim, arith}
use Rattle.std.specs.Prelude.{slice_get, slice_index, nat_lt, if◌then◌else◌}
use Rattle.std.specs.List.{list_any}
use Rattle.std.specs.List.Sorted.{IsStrictlyIncreasing}
use Rattle.std.proofs.lemmas.Bool.{cases_eq, eq-eqb, eqb-true, ne_eqb}
use Rattle.std.proofs.lemmas.List.Folds.{Any-from_list_any, list_any_at, list_any_none}
use Rattle.std.proofs.lemmas.List.{get_or-map, length-map}
use Rattle.std.proofs.lemmas.List.Sums.{position_or_len_is, sum_by_more}
use Rattle.std.proofs.lemmas.Option.{slice_get_within, get_or_from_slice_get, slice_get-get_or}
use Rattle.ring_model.specs.Ring.{has_device, has_present}
use Rattle.ring_words.specs.declared.device.Device.{Device}
use Rattle.ring_share.specs.Crowd.{device_by_id, is_on, pass_both}
use Rattle.ring_share.specs.Near.{StandsAt}
use Rattle.ring_share.specs.Room.{has_open, place_of}
use Rattle.ring_share.specs.Want.{is_open}
use Rattle.ring_share.proofs.Bridge.{device_of_at}
use Rattle.ring_share.proofs.Counting.{apart}
use Rattle.ring_share.proofs.Standing.{read_at}
use Rattle.ring_share.proofs.TierLists.{both_true}
use Rattle.ring_room.specs.Load.{Load, IsLoad, has_room_in, want_in}
use Rattle.ring_room.specs.Places.{id_at, number_of, seats_at}

-- a device stands at the place of its number
pub place_is : (devices : List Device) → IsStrictlyIncreasing (map (λ device. device.id) devices) →
    (place : ℕ) (x : Device) → slice_get devices place ≡ Some x → place_of x.id devices ≡ place
place_is devices rise place x at =
    let within = slice_get_within devices place x at in
    position_or_len_is (λ (device : Device). device.id == x.id) devices place x
    (omega (arith, within))
    (λ k lt. let read : slice_get devices k ≡ Some (get_or devices k x) =
    slice_get-get_or devices k x (omega (arith, lt, within)) in
    ne_eqb _ _ (apart devices rise k place (get_or devices k x) x read at (let ne : k ≢ place =
    omega arith in ne)))
    (λ lt. eq-eqb _ _ (ap (λ (d : Device). d.id) (get_or_from_slice_get devices place x x at)))

pub place_stands : (devices : List Device) →
    IsStrictlyIncreasing (map (λ device. device.id) devices) → (id place : ℕ) →
    StandsAt devices id place → place_of id devices ≡ place
place_stands devices rise id place s = ap (λ n. place_of n devices) (sym s.named) ∙ place_is devices
    rise place s.device s.at

pub id_at_is : (devices : List Device) (place : ℕ) (x : Device) → slice_get devices place ≡ Some x →
    id_at devices place ≡ x.id
id_at_is devices place x at = ap number_of at

pub id_stands : (devices : List Device) (id place : ℕ) → StandsAt devices id place →
    id_at devices place ≡ id
id_stands devices id place s = id_at_is devices place s.device s.at ∙ s.named

-- a test of the device of a number is one of the device at its place
any_if : (test : Device → Bool) (devices : List Device) →
    IsStrictlyIncreasing (map (λ device. device.id) devices) → (place : ℕ) (x : Device) →
    slice_get devices place ≡ Some x
    → (b : Bool) → test x ≡ b → list_any (λ (device : Device). (device.id == x.id) && test device)
    devices ≡ b
any_if test devices rise place x at true is =
    let same : (x.id == x.id) ≡ true = eq-eqb _ _ refl in
    list_any_at (λ (device : Device). (device.id == x.id) && test device) devices place x
    (slice_get_within devices place x at)
    (ap (λ (device : Device). (device.id == x.id) && test device) (get_or_from_slice_get devices
    place x x at) ∙ (rw (same, is) refl))
any_if test devices rise place x at false is =
    list_any_none (λ (device : Device). (device.id == x.id) && test device) devices
    (λ k d lt. ⊎_elim
    (λ same. let read : get_or devices k d ≡ x = ap (λ j. get_or devices j d) same ∙
    get_or_from_slice_get devices place x d at in
    ap (λ (device : Device). (device.id == x.id) && test device) read ∙ fails (x.id == x.id)
    (test x) is)
    (λ other. let read = slice_get-get_or devices k d lt in
    let differs : ((get_or devices k d).id == x.id) ≡ false =
    ne_eqb _ _ (apart devices rise k place (get_or devices k d) x read at other) in
    rw differs refl)
    (cases_eq k place))
  where
    fails : (a b : Bool) → b ≡ false → (a && b) ≡ false
    fails true b is = is
    fails false b is = refl

pub any_at : (test : Device → Bool) (devices : List Device) →
    IsStrictlyIncreasing (map (λ device. device.id) devices) → (place : ℕ) (x : Device) →
    slice_get devices place ≡ Some x
    → list_any (λ (device : Device). (device.id == x.id) && test device) devices ≡ test x
any_at test devices rise place x at = any_if test devices rise place x at (test x) refl

pub open_at : (devices : List Device) → IsStrictlyIncreasing (map (λ device. device.id) devices) →
    (place : ℕ) (x : Device) → slice_get devices place ≡ Some x → has_open x.id devices ≡ is_open x
open_at devices rise place x at = any_at is_open devices rise place x at

pub present_at : (devices : List Device) → IsStrictlyIncreasing (map (λ device. device.id) devices)
    → (place : ℕ) (x : Device) → slice_get devices place ≡ Some x → has_present x.id devices ≡ not
    x.removed
present_at devices rise place x at = any_at (λ device. not device.removed) devices rise place x at

pub room_at : (load : Load) → IsLoad load → (place : ℕ) (x : Device) →
    slice_get load.devices place ≡ Some x
    → has_room_in load (id_at load.devices place) ≡ (is_open x &&
    nat_lt (slice_index load.counts place) (slice_index load.wanted place))
room_at load is place x at =
    ap (λ id. has_room_in load id) (id_at_is load.devices place x at)
    ∙ rw (open_at load.devices is.rise place x at, place_is load.devices is.rise place x at) refl

pub index_is : (xs : List ℕ) (place value : ℕ) → place < length xs → value ≡ get_or xs place value →
    slice_index xs place ≡ value
index_is xs place value lt is = get_or_from_slice_get xs place (get_or xs place value) 0
    (slice_get-get_or xs place value lt) ∙ sym is

-- a device that was read of a room
pub read_in : (load now : Load) → load ≡ now → (place : ℕ) (x : Device) →
    place < length now.devices → x ≡ get_or load.devices place x →
    slice_get now.devices place ≡ Some x
read_in load now same place x lt is = read_at now.devices place x lt
    (is ∙ ap (λ (l : Load). get_or l.devices place x) same)

pub is_load : (load now : Load) → load ≡ now → IsLoad load → IsLoad now
is_load load now same is = subst (λ l. IsLoad l) same is

pub present_in : (load now : Load) → load ≡ now → IsLoad load → (place id : ℕ) (x : Device) →
    place < length now.devices → x ≡ get_or load.devices place x → id_at now.devices place ≡ id
    → not x.removed ≡ has_present id now.devices
present_in load now same is place id x lt read named =
    let at = read_in load now same place x lt read in
    sym (ap (λ n. has_present n now.devices) (sym named ∙ id_at_is now.devices place x at) ∙
    present_at now.devices (is_load load now same is).rise place x at)

-- the tiers of devices at two places
pub tier_at : (tier : Device → Device → Bool) (devices : List Device) →
    IsStrictlyIncreasing (map (λ device. device.id) devices) → (place other : ℕ) (x y : Device) →
    slice_get devices place ≡ Some x
    → slice_get devices other ≡ Some y → pass_both tier (device_by_id (id_at devices place) devices)
    (device_by_id (id_at devices other) devices) ≡ tier x y
tier_at tier devices rise place other x y at bt =
    rw (
      id_at_is devices place x at,
      id_at_is devices other y bt,
      device_of_at devices rise place x
          at,
      device_of_at devices rise other y bt,
    ) refl

-- one more seat is counted
pub seats_more : (test : ℕ → Bool) (devices : List Device) (others : List ℕ) (i : ℕ) (b : Bool) →
    i < length others → test (id_at devices (get_or others i 0)) ≡ b
    → count_by (is_on test) (take (i + 1) (seats_at devices others)) ≡ count_by (is_on test)
    (take i (seats_at devices others)) + (if b then 1 else 0)
seats_more test devices others i b lt is =
    let seat : get_or (seats_at devices others) i None ≡ Some (id_at devices (get_or others i 0)) =
    get_or-map (λ place. Some (id_at devices place)) others i 0 None lt in
    sum_by_more (λ s. cond (is_on test s) 1 0) (seats_at devices others) i None (omega (
      arith,
      lt,
      length-map others (λ place. Some (id_at devices place)),
    ))
    ∙ (rw (seat, is) refl)

pub at_most_one : (b : Bool) → (if b then 1 else 0) ≤ 1
at_most_one true = omega arith
at_most_one false = omega arith

-- a device of the ring remains where none is marked
pub all_present : (devices : List Device) (id : ℕ) → All (λ device. device.removed ≡ false) devices →
    has_device id devices ≡ true → has_present id devices ≡ true
all_present devices id present known =
    let found = Any-from_list_any (λ (device : Device). device.id == id) devices known in
    let here : ((get_or devices found.0 found.1).id == id) ≡ true =
    ap (λ (device : Device). device.id == id) found.3 ∙ found.4 in
    let stays : not (get_or devices found.0 found.1).removed ≡ true =
    ap not (present found.0 found.1 found.2) in
    list_any_at (λ (device : Device). (device.id == id) && not device.removed) devices found.0
    found.1 found.2 (both_true _ _ here stays)

-- and wants a seat where each does
pub all_want : (load : Load) → IsLoad load → (id : ℕ) →
    ((place : ℕ) → place < length load.wanted → 0 < get_or load.wanted place 0) →
    has_device id load.devices ≡ true → false ≡ (want_in load id == 0)
all_want load is id want known =
    let found = Any-from_list_any (λ (device : Device). device.id == id) load.devices known in
    let at : slice_get load.devices found.0 ≡ Some found.1 =
    slice_get-get_or load.devices found.0 found.1 found.2 ∙ ap Some found.3 in
    let place : place_of id load.devices ≡ found.0 =
    ap (λ n. place_of n load.devices) (sym (eqb-true found.1.id id found.4))
    ∙ place_is load.devices is.rise found.0 found.1 at in
    let long = is.wants in
    let below = found.2 in
    let some : 0 < get_or load.wanted found.0 0 = want found.0 (omega (arith, long, below)) in
    let other : get_or load.wanted found.0 0 ≢ 0 = omega (arith, some) in
    sym (ap (λ k. get_or load.wanted k 0 == 0) place ∙ ne_eqb _ _ other)
