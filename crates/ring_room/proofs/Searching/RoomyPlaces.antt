-- The lists of a room, as the counts of seats change.
use Rattle.std.proofs.Common.{◌≡◌, ◌≢◌, ◌&&◌, ◌<◌, ◌≤◌, ℕ, Bool, true, false, not, List}
use Rattle.std.proofs.Common.{length, get_or, set, take, refl, sym, ap, subst, ◌∙◌, ⊎_elim, arith}
use Rattle.std.proofs.Math.Bool.{beq}
use Rattle.std.specs.Prelude.{nat_lt}
use Rattle.std.proofs.lemmas.Bool.{cases_eq}
use Rattle.std.proofs.lemmas.Grind.{get_or_default_zero}
use Rattle.std.proofs.lemmas.List.{length-set, length-take-le, get_or-set_other, get_or-set_same}
use Rattle.std.proofs.lemmas.List.{get_or-take}
use Rattle.ring_share.specs.Room.{has_open, place_of}
use Rattle.ring_room.specs.Load.{Load, IsLoad, has_room_in, want_in}
use Rattle.ring_room.specs.Inner.Lists.{AreRoomy, IsRoom}
use Rattle.ring_room.specs.Places.{id_at}
use Rattle.ring_room.proofs.Searching.ByName.{same_below}
use Rattle.ring_room.proofs.Searching.DevicesAt.{id_at_is, index_is, place_is}
use Rattle.ring_room.proofs.Searching.FreeOutside.{device_there}

pub same_if : (a b : Bool) → not (beq a b) ≡ false → a ≡ b
same_if true true h = refl
same_if false false h = refl
same_if true false h = absurd (cc h)
same_if false true h = absurd (cc h)

-- with so many seats on the device at a place
abbrev pub with_count_at : Load → ℕ → ℕ → Load
with_count_at load place count = record load { counts = set load.counts place count }

-- another count of one device leaves the room of all others
room_elsewhere : (load : Load) → IsLoad load → (changed count place : ℕ) →
    place < length load.devices → place ≢ changed
    → has_room_in (with_count_at load changed count) (id_at load.devices place) ≡ has_room_in load
    (id_at load.devices place)
room_elsewhere load is changed count place lt differs =
    let x = device_there load.devices place lt in
    let here : place_of (id_at load.devices place) load.devices ≡ place =
    ap (λ n. place_of n load.devices) (id_at_is load.devices place x.0 x.1) ∙ place_is
    load.devices is.rise place x.0 x.1 in
    let counts : get_or (set load.counts changed count) (place_of (id_at load.devices place)
    load.devices) 0 ≡ get_or load.counts (place_of (id_at load.devices place) load.devices) 0 =
    get_or-set_other load.counts changed (place_of (id_at load.devices place) load.devices) count 0
    (λ same. differs (sym here ∙ same)) in
    ap (λ have. has_open (id_at load.devices place) load.devices &&
    nat_lt have (want_in load (id_at load.devices place))) counts

-- and where its own room stays, that of each device does
room_stays : (load : Load) → IsLoad load → (changed count : ℕ) →
    has_room_in (with_count_at load changed count) (id_at load.devices changed) ≡ has_room_in load
    (id_at load.devices changed)
    → (place : ℕ) → place < length load.devices → has_room_in (with_count_at load changed count)
    (id_at load.devices place) ≡ has_room_in load (id_at load.devices place)
room_stays load is changed count same place lt = ⊎_elim
    (λ at. subst (λ p. has_room_in (with_count_at load changed count) (id_at load.devices p) ≡
    has_room_in load (id_at load.devices p)) (sym at) same)
    (room_elsewhere load is changed count place lt)
    (cases_eq place changed)

-- a count that is below the want where the one before it was leaves a device's own room
pub room_same : (load : Load) → IsLoad load → (place want have count : ℕ) →
    place < length load.devices → want ≡ get_or load.wanted place want →
    have ≡ get_or load.counts place have → nat_lt count want ≡ nat_lt have want
    → has_room_in (with_count_at load place count) (id_at load.devices place) ≡ has_room_in load
    (id_at load.devices place)
room_same load is place want have count lt wants counts same =
    let x = device_there load.devices place lt in
    let here : place_of (id_at load.devices place) load.devices ≡ place =
    ap (λ n. place_of n load.devices) (id_at_is load.devices place x.0 x.1) ∙ place_is
    load.devices is.rise place x.0 x.1 in
    let counted = is.counted in
    let wanted = is.wants in
    let has = get_or-set_same load.counts place count 0 (omega (arith, counted, lt)) in
    let had = index_is load.counts place have (omega (arith, counted, lt)) counts in
    let wants_it = index_is load.wanted place want (omega (arith, wanted, lt)) wants in
    rw (here, has, had, wants_it, same) refl

pub room_kept : (load : Load) (roomy : List ℕ) (listed : ℕ)
    (regions zones servers in_region in_zone in_server : List ℕ) (all_present all_want : Bool) →
    IsRoom load roomy listed regions zones servers in_region in_zone in_server all_present all_want →
    (changed count : ℕ)
    → has_room_in (with_count_at load changed count) (id_at load.devices changed) ≡ has_room_in load
    (id_at load.devices changed)
    → IsRoom (with_count_at load changed count) roomy listed regions zones servers in_region in_zone
    in_server all_present all_want
room_kept load roomy listed regions zones servers in_region in_zone in_server all_present all_want is
    changed count same =
    let before = is.counted in
    record {
      counted = record {
        rise = before.rise;
        few = before.few;
        wants = before.wants;
        counted =
            length-set load.counts changed count ∙ before.counted;
      };
      long = is.long;
      few = is.few;
      listed = record {
        within = is.listed.within;
        roomy = λ k d lt. room_stays load before changed count same (get_or (take listed roomy) k d)
            (is.listed.within k d lt) ∙ is.listed.roomy k d lt;
        covered = λ place lt room. is.listed.covered place lt
            (sym (room_stays load before changed count same place lt) ∙ room);
      };
      in_order = is.in_order ∙ sym (same_below load (with_count_at load changed count) refl
          (length load.devices) (room_stays load before changed count same));
      regions_have = is.regions_have;
      zones_have = is.zones_have;
      servers_have = is.servers_have;
      regions_told = is.regions_told;
      zones_told = is.zones_told;
      servers_told = is.servers_told;
      present = is.present;
      want = is.want;
    }

-- the first places of an array are roomy
pub roomy_first : (load : Load) (places : List ℕ) (count : ℕ) → count ≤ length places →
    ((k : ℕ) → k < count → get_or places k 0 < length load.devices)
    → ((k : ℕ) → k < count → has_room_in load (id_at load.devices (get_or places k 0)) ≡ true)
    → ((place : ℕ) → place < length load.devices → has_room_in load (id_at load.devices place) ≡
    true → (k : ℕ) × (k < count) × (get_or places k 0 ≡ place)) →
    AreRoomy load (take count places)
roomy_first load places count few within roomy covered =
    let long : length (take count places) ≡ count = length-take-le count places few in
    let read : (k d : ℕ) → k < length (take count places) → (k < count) ×
    (get_or (take count places) k d ≡ get_or places k 0) =
    λ k d lt.
    let below : k < count = omega (arith, lt, long) in
    (below, get_or_default_zero (take count places) k d lt ∙ get_or-take count places k 0 below) in
    record {
      within = λ k d lt.
          let is = read k d lt in
          let there = within k is.0 in
          omega (arith, there, is);
      roomy = λ k d lt.
          let is = read k d lt in
          ap (λ place. has_room_in load (id_at load.devices place)) is.1 ∙ roomy k is.0;
      covered = λ place lt room.
          let listed = covered place lt room in (
            listed.0,
            omega (arith, listed.1, long),
            get_or-take count places listed.0 0 listed.1 ∙
                listed.2,
          );
    }

-- the listed devices, as a room is seen
pub first_listed : (load now : Load) (roomy items : List ℕ) (count : ℕ) → load ≡ now →
    items ≡ roomy → AreRoomy load (take count roomy) → AreRoomy now (take count items)
first_listed load now roomy items count same is listed = subst (λ xs. AreRoomy now (take count xs))
    (sym is) (subst (λ l. AreRoomy l (take count roomy)) same listed)
