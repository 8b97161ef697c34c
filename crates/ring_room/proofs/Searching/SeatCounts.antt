-- How many seats devices have, as seats are put on them.
use Rattle.std.proofs.Common.{◌≡◌, ◌≢◌, ◌==◌, ℕ, ◌+◌, ◌<◌, true, cond, List, length, get_or, map}
use Rattle.ring_words.specs.Limits.{greatest_long}
use Rattle.std.proofs.Common.{set, take, Some, refl, sym, ap, ◌∙◌, ⊎_elim, arith}
use Rattle.std.specs.Prelude.{slice_get, nat_lt, if◌then◌else◌}
use Rattle.std.specs.List.Sorted.{IsStrictlyIncreasing}
use Rattle.std.proofs.lemmas.Bool.{cases_eq, eq-eqb, ne_eqb}
use Rattle.std.proofs.lemmas.Bool.Decides.{nat_tests}
use Rattle.std.proofs.lemmas.List.{get_or-set_same, get_or-set_other, get_or-take}
use Rattle.std.proofs.lemmas.Option.{slice_get_within, same_Some}
use Rattle.ring_model.specs.Ring.{RingRecord, has_device}
use Rattle.ring_words.specs.declared.device.Device.{Device}
use Rattle.ring_share.specs.Room.{have, place_of}
use Rattle.ring_share.proofs.Standing.{found_device}
use Rattle.ring_room.specs.Load.{Load, IsLoad, have_in, load_put}
use Rattle.ring_room.specs.Places.{id_at}
use Rattle.ring_room.proofs.Searching.DevicesAt.{id_at_is, index_is, is_load, place_is}
use Rattle.ring_room.proofs.Searching.DevicesAt.{place_stands}
use Rattle.ring_room.proofs.Searching.FreeOutside.{device_there}
use Rattle.ring_room.proofs.Searching.RoomyPlaces.{with_count_at}

-- the place of a device that is known
pub place_within : (load : Load) → IsLoad load → (id : ℕ) → has_device id load.devices ≡ true →
    place_of id load.devices < length load.counts
place_within load is id known =
    let found = found_device load.devices id known in
    let within = slice_get_within load.devices found.place found.stands.device found.stands.at in
    let here = place_stands load.devices is.rise id found.place found.stands in
    let counted = is.counted in
    omega (arith, within, here, counted)

-- two devices that are known stand at two places
pub places_differ : (load : Load) → IsLoad load → (id other : ℕ) → has_device id load.devices ≡ true
    → has_device other load.devices ≡ true → other ≢ id
    → place_of other load.devices ≢ place_of id load.devices
places_differ load is id other known also ne same =
    let a = found_device load.devices id known in
    let b = found_device load.devices other also in
    let ha = place_stands load.devices is.rise id a.place a.stands in
    let hb = place_stands load.devices is.rise other b.place b.stands in
    let one : b.place ≡ a.place = omega (arith, ha, hb, same) in
    let device : b.stands.device ≡ a.stands.device = same_Some b.stands.device a.stands.device
    (sym b.stands.at ∙ ap (slice_get load.devices) one ∙ a.stands.at) in
    ne (sym b.stands.named ∙ ap (λ (d : Device). d.id) device ∙ a.stands.named)

-- counts by place are counts by number
pub counted_have : (ring : RingRecord) (load : Load) (counts : List ℕ) →
    IsStrictlyIncreasing (map (λ device. device.id) ring.devices) → load.devices ≡ ring.devices
    → load.counts ≡ take (length ring.devices) counts → ((place : ℕ) (device : Device) →
    slice_get ring.devices place ≡ Some device → get_or counts place 0 ≡ have ring device.id)
    → (id : ℕ) → has_device id ring.devices ≡ true → have_in load id ≡ have ring id
counted_have ring load counts rise devices counted each id known =
    let found = found_device ring.devices id known in
    let within = slice_get_within ring.devices found.place found.stands.device found.stands.at in
    ap (λ ds. get_or load.counts (place_of id ds) 0) devices
    ∙ ap (λ (place : ℕ). get_or load.counts place 0) (place_stands ring.devices rise id found.place
    found.stands)
    ∙ ap (λ (xs : List ℕ). get_or xs found.place 0) counted
    ∙ get_or-take (length ring.devices) counts found.place 0 within
    ∙ each found.place found.stands.device found.stands.at
    ∙ ap (have ring) found.stands.named

-- one seat more at a place is one more of the device there
pub put_there : (load now new : Load) → load ≡ now → IsLoad load → (place count more : ℕ) →
    place < length now.devices → count ≡ get_or load.counts place count
    → more ≡ (if nat_lt count greatest_long then count + 1 else count) →
    new ≡ with_count_at now place more → new ≡ load_put now (id_at now.devices place)
put_there load now new same is place count more lt read more_is new_is =
    let there = is_load load now same is in
    let x = device_there now.devices place lt in
    let here : place_of (id_at now.devices place) now.devices ≡ place =
    ap (λ n. place_of n now.devices) (id_at_is now.devices place x.0 x.1) ∙ place_is now.devices
    there.rise place x.0 x.1 in
    let has = index_is now.counts place count (let n = there.counted in omega (arith, n, lt))
    (read ∙ ap (λ (l : Load). get_or l.counts place count) same) in
    new_is ∙ ap (with_count_at now place) more_is ∙ sym (rw (here, has) refl)

pub more_if : (count : ℕ) → count < greatest_long → (if nat_lt count greatest_long then count + 1
    else
    count) ≡ count + 1
more_if count lt = let yes : nat_lt count greatest_long ≡ true = grind (arith, nat_tests) in
    rw yes refl

-- one seat more is on the device that it was put on, and on no other
pub put_more : (load : Load) → IsLoad load → (id other : ℕ) → has_device id load.devices ≡ true →
    has_device other load.devices ≡ true → have_in load id < greatest_long
    → have_in (load_put load id) other ≡ have_in load other + cond (id == other) 1 0
put_more load is id other known also few =
    let value = if nat_lt (have_in load id) greatest_long then have_in load id + 1 else
    have_in load id in
    let here = place_of id load.devices in
    ⊎_elim
    (λ same.
    let yes : ◌≡◌ {A = ℕ} (cond (id == other) 1 0) 1 = rw (eq-eqb _ _ (sym same)) refl in
    let at : have_in (load_put load id) other ≡ value =
    ap (λ k. get_or (set load.counts here value) (place_of k load.devices) 0) same ∙
    get_or-set_same load.counts here value 0 (place_within load is id known) in
    let old : have_in load other ≡ have_in load id = ap (have_in load) same in
    let new = more_if (have_in load id) few in
    omega (arith, yes, at, old, new))
    (λ differs.
    let none : ◌≡◌ {A = ℕ} (cond (id == other) 1 0) 0 = rw (ne_eqb _ _ (λ e. differs (sym e))) refl
    in
    let at = get_or-set_other load.counts here (place_of other load.devices) value 0
    (places_differ load is id other known also differs) in
    omega (arith, none, at))
    (cases_eq other id)
