-- Devices outside some others, and an open one among them.
use Rattle.std.proofs.Common.{◌≡◌, ◌==◌, ℕ, ◌+◌, ◌<◌, ◌≤◌, Bool, true, false, not, cond, ◌&&◌}
use Rattle.std.proofs.Common.{◌||◌, All, List, [], ◌∷◌, length, get_or, map, count_by, Some}
use Rattle.std.proofs.Common.{refl, sym, ap, subst, ◌∙◌, arith}
use Rattle.std.specs.Prelude.{nat_eq}
use Rattle.std.specs.List.{AllPairs, filter, list_any, IsDistinct}
use Rattle.std.specs.List.Sorted.{IsStrictlyIncreasing}
use Rattle.std.specs.Cmp.{nat_eq_equiv}
use Rattle.std.proofs.lemmas.Bool.Decides.{nat_tests}
use Rattle.std.proofs.lemmas.Bool.{eq-eqb, eqb-true, ne_eqb}
use Rattle.std.proofs.lemmas.List.{get_or-map, length-map}
use Rattle.std.proofs.lemmas.List.Elements.{All-filter, filter_passes}
use Rattle.std.proofs.lemmas.List.Folds.{Any-from_list_any, list_any-from_Any}
use Rattle.std.proofs.lemmas.List.Kept.{AllPairs-filter}
use Rattle.std.proofs.lemmas.List.Sums.{sum_by-cons, length-filter}
use Rattle.std.proofs.lemmas.Map.Keys.{IsDistinct-from_apart}
use Rattle.std.proofs.lemmas.Map.Made.{length-le_from_is_member}
use Rattle.std.proofs.lemmas.Option.{slice_get-get_or}
use Rattle.ring_words.specs.declared.device.Device.{Device}
use Rattle.ring_share.specs.Crowd.{is_on, is_outside, seats_on}
use Rattle.ring_share.specs.Want.{is_open}
use Rattle.ring_share.proofs.Sharing.{ids_rise}
use Rattle.ring_room.specs.Load.{Load, has_room_in, is_free_in, seats_of}
use Rattle.ring_room.specs.Inner.Lists.{AreRoomy}
use Rattle.std.specs.Prelude.{slice_get}
use Rattle.ring_room.specs.Places.{id_at, seats_at}
use Rattle.ring_room.proofs.Searching.FreeOutside.{outside_at}
use Rattle.ring_room.proofs.Searching.DevicesAt.{id_at_is, read_in}
use Rattle.ring_room.proofs.Searching.FreeOutside.{device_there}

-- ---- outside a list of devices

one_more : (b c : Bool) (n : ℕ) → (n == 0) ≡ not c → ((cond b 1 0 + n) == 0) ≡ not (b || c)
one_more true c n is = grind (arith, nat_tests)
one_more false c n is = ap (λ m. m == 0) (let same : 0 + n ≡ n = omega arith in same) ∙ is

pub outside_ids : (ids : List ℕ) (id : ℕ) → is_outside (seats_of ids) id ≡ not
    (list_any (λ other. other == id) ids)
outside_ids [] id = refl
outside_ids (other ∷ ids) id =
    let cons : seats_on id (seats_of (other ∷ ids)) ≡ cond (other == id) 1 0 + seats_on id
    (seats_of ids) = sum_by-cons (λ s. cond (is_on (λ o. o == id) s) 1 0) (Some other)
    (seats_of ids) in
    ap (λ n. n == 0) cons ∙ one_more (other == id) (list_any (λ o. o == id) ids)
    (seats_on id (seats_of ids)) (outside_ids ids id)

pub free_ids : (load : Load) (ids : List ℕ) (id : ℕ) (among : Bool) → has_room_in load id ≡ true →
    among ≡ list_any (λ other. other == id) ids → not among ≡ is_free_in load (seats_of ids) id
free_ids load ids id among room is = ap not is ∙ sym (outside_ids ids id) ∙ sym (rw room refl)

-- the device at a listed place is free where it isn't among them
pub listed_free : (load now : Load) → load ≡ now → (items : List ℕ) → AreRoomy now items →
    (ids : List ℕ) (k : ℕ) (x : Device) (among : Bool) → k < length items
    → x ≡ get_or load.devices (get_or items k 0) x → among ≡ list_any (λ other. other == x.id) ids →
    not among ≡ is_free_in now (seats_of ids) (id_at now.devices (get_or items k 0))
listed_free load now same items are ids k x among lt read is =
    let named = id_at_is now.devices (get_or items k 0) x (read_in load now same (get_or items k 0)
    x (are.within k 0 lt) read) in
    free_ids now ids x.id among (ap (has_room_in now) (sym named) ∙ are.roomy k 0 lt) is ∙ ap
    (is_free_in now (seats_of ids)) (sym named)

-- ---- an open device outside

pub pairs : (devices : List Device) → IsStrictlyIncreasing (map (λ device. device.id) devices) →
    AllPairs (λ (a b : Device). a.id < b.id) devices
pairs devices rise i j d lt within =
    ids_rise devices rise i j (get_or devices i d) (get_or devices j d) lt (slice_get-get_or devices
    i d (omega (arith, lt, within))) (slice_get-get_or devices j d within)

ids_distinct : (devices : List Device) → AllPairs (λ (a b : Device). a.id < b.id) devices →
    IsDistinct nat_eq (map (λ device. device.id) devices)
ids_distinct devices rise = IsDistinct-from_apart nat_eq (map (λ device. device.id) devices)
    (λ i j d lt within.
    let long : length (map (λ device. device.id) devices) ≡ length devices =
    length-map devices (λ (device : Device). device.id) in
    let some = device_there devices j (omega (arith, within, long)) in
    let less = rise i j some.0 lt (omega (arith, within, long)) in
    let one = get_or-map (λ (device : Device). device.id) devices i some.0 d (omega (
      arith,
      lt,
      within,
      long,
    )) in
    let other = get_or-map (λ (device : Device). device.id) devices j some.0 d
    (omega (arith, within, long)) in
    ne_eqb _ _ (λ same. omega (arith, one, other, same, less)))

among_if : (a b : Bool) → a ≡ true → (a && not b) ≡ false → b ≡ true
among_if true true h k = refl
among_if true false h k = absurd (cc k)
among_if false b h k = absurd (cc h)

-- where each open device is among the others, these are no fewer than the open devices
pub open_among : (devices : List Device) (ids : List ℕ) →
    IsStrictlyIncreasing (map (λ device. device.id) devices)
    → All (λ (device : Device). (is_open device && not (list_any (λ other. other == device.id) ids))
    ≡ false) devices → count_by is_open devices ≤ length ids
open_among devices ids rise all =
    let opens = filter is_open devices in
    let distinct = ids_distinct opens (AllPairs-filter (λ (a b : Device). a.id < b.id) is_open
    devices (pairs devices rise)) in
    let long = length-map opens (λ (device : Device). device.id) in
    let few = length-le_from_is_member nat_eq_equiv (map (λ device. device.id) opens) ids distinct
    member in
    omega (arith, few, long, length-filter is_open devices)
  where
    flip : (q o : ℕ) → (o == q) ≡ true → nat_eq q o ≡ true
    flip q o h = eq-eqb q o (sym (eqb-true o q h))

    member : (q : ℕ) → list_any (nat_eq q) (map (λ (device : Device). device.id)
        (filter is_open devices)) ≡ true → list_any (nat_eq q) ids ≡ true
    member q h =
        let found = Any-from_list_any (nat_eq q) (map (λ (device : Device). device.id)
        (filter is_open devices)) h in
        let long = length-map (filter is_open devices) (λ (device : Device). device.id) in
        let some = device_there (filter is_open devices) found.0 (let within = found.2 in
        omega (arith, within, long)) in
        let within : found.0 < length (filter is_open devices) =
        (let lt = found.2 in omega (arith, lt, long)) in
        let at = get_or-map (λ (device : Device). device.id) (filter is_open devices) found.0 some.0
        found.1 within in
        let same : q ≡ (get_or (filter is_open devices) found.0 some.0).id =
        eqb-true q found.1 found.4 ∙ sym found.3 ∙ at in
        let opens = filter_passes is_open devices found.0 some.0 within in
        let no = All-filter is_open (λ (device : Device). (is_open device &&
        not (list_any (λ other. other == device.id) ids)) ≡ false) devices all found.0 some.0
        within in
        let among = among_if _ _ opens no in
        let there = Any-from_list_any (λ o. o == (get_or (filter is_open devices) found.0
        some.0).id) ids among in
        list_any-from_Any (nat_eq q) ids (
          there.0,
          there.1,
          there.2,
          there.3,
          flip q there.1 (subst (λ x. (there.1 == x) ≡ true) (sym same) there.4),
        )

seats_ids : (devices : List Device) (places : List ℕ) → seats_of (map (id_at devices) places) ≡
    seats_at devices places
seats_ids devices [] = refl
seats_ids devices (place ∷ places) = ap (λ seats. Some (id_at devices place) ∷ seats)
    (seats_ids devices places)

among_same : (devices : List Device) → IsStrictlyIncreasing (map (λ device. device.id) devices) →
    (others : List ℕ) (k : ℕ) (x : Device) → All (λ other. other < length devices) others →
    k < length devices → slice_get devices k ≡ Some x
    → not (list_any (λ other. other == x.id) (map (id_at devices) others)) ≡ not
    (list_any (λ other. other == k) others)
among_same devices rise others k x all lt at =
    sym (outside_ids (map (id_at devices) others) x.id)
    ∙ ap (λ seats. is_outside seats x.id) (seats_ids devices others)
    ∙ ap (is_outside (seats_at devices others)) (sym (id_at_is devices k x at))
    ∙ outside_at devices rise others k all lt

-- where each open device is at one of some places, these are no fewer than the open devices
pub open_places : (devices : List Device) (others : List ℕ) →
    IsStrictlyIncreasing (map (λ device. device.id) devices) →
    All (λ other. other < length devices) others
    → ((k : ℕ) (x : Device) → k < length devices → (is_open (get_or devices k x) &&
    not (list_any (λ other. other == k) others)) ≡ false) →
    count_by is_open devices ≤ length others
open_places devices others rise all none =
    let few = open_among devices (map (id_at devices) others) rise (λ k x lt.
    ap (λ b. is_open (get_or devices k x) && b) (among_same devices rise others k
    (get_or devices k x) all lt (slice_get-get_or devices k x lt)) ∙ none k x lt) in
    omega (arith, few, length-map others (id_at devices))
