-- How crowded open devices are at the least.
use Rattle.std.proofs.Common.{◌≡◌, ◌==◌, ◌&&◌, ℕ, ◌<◌, Bool, true, false, cond, List, [], ◌∷◌}
use Rattle.std.proofs.Common.{length, get_or, count_by, Option, Some, None, refl, sym, ap, subst}
use Rattle.std.proofs.Common.{◌∙◌, arith}
use Rattle.std.specs.Prelude.{slice_get}
use Rattle.std.specs.List.{list_any}
use Rattle.std.proofs.lemmas.Bool.{and_parts, eq-eqb, eqb-true}
use Rattle.std.proofs.lemmas.Bool.Decides.{nat_tests}
use Rattle.std.proofs.lemmas.Grind.{get_or_default_zero}
use Rattle.std.proofs.lemmas.List.Folds.{Any-from_list_any, list_any_at}
use Rattle.std.proofs.lemmas.List.Sums.{sum_by-cons}
use Rattle.std.proofs.lemmas.Option.{get_or_from_slice_get, slice_get-get_or}
use Rattle.ring_words.specs.declared.device.Device.{Device}
use Rattle.ring_share.specs.Crowd.{device_by_id, in_region, in_zone, is_less, is_on, on_server}
use Rattle.ring_share.specs.Crowd.{pass_both}
use Rattle.ring_share.specs.Room.{has_open}
use Rattle.ring_share.specs.Want.{is_open}
use Rattle.ring_share.proofs.Bridge.{device_of_at}
use Rattle.ring_share.proofs.TierLists.{both_true}
use Rattle.ring_share.specs.Near.{is_open_at}
use Rattle.ring_share.specs.Tiers.{AreTier, shares}
use Rattle.ring_share.specs.declared.tiers.Tier.{Tier}
use Rattle.ring_share.specs.declared.tiers.Tier.TheVariants.{Region, Zone, Server}
use Rattle.ring_room.specs.Load.{Load, IsLoad, crowd_in}
use Rattle.ring_room.specs.Inner.Lists.{IsFloor, cut}
use Rattle.ring_room.specs.Places.{id_at}
use Rattle.ring_room.proofs.Searching.DevicesAt.{id_at_is}
use Rattle.ring_room.proofs.Searching.FreeOutside.{device_there}

-- an open device at a place is one of its number
pub open_there : (devices : List Device) (place : ℕ) (x : Device) → place < length devices →
    is_open (get_or devices place x) ≡ true → has_open (id_at devices place) devices ≡ true
open_there devices place x lt opens =
    let named : id_at devices place ≡ (get_or devices place x).id =
    id_at_is devices place (get_or devices place x) (slice_get-get_or devices place x lt) in
    list_any_at (λ (device : Device). (device.id == id_at devices place) && is_open device) devices
    place x lt (both_true _ _ (eq-eqb _ _ (sym named)) opens)

pub open_named : (devices : List Device) (place : ℕ) → place < length devices →
    is_open_at devices place ≡ true → has_open (id_at devices place) devices ≡ true
open_named devices place lt opens =
    let x = device_there devices place lt in
    let is : is_open x.0 ≡ true = (let h = rw x.1 at opens in h) in
    open_there devices place x.0 lt (ap is_open (get_or_from_slice_get devices place x.0 x.0 x.1) ∙
    is)

-- ---- devices that share a tier have the same others in it

region_same : (x y : Device) → in_region y x ≡ true → (other : Option Device) →
    pass_both in_region (Some x) other ≡ pass_both in_region (Some y) other
region_same x y same None = refl
region_same x y same (Some other) = ap (λ region. region == other.row.region)
    (sym (eqb-true y.row.region x.row.region same))

zone_same : (x y : Device) → in_zone y x ≡ true → (other : Option Device) →
    pass_both in_zone (Some x) other ≡ pass_both in_zone (Some y) other
zone_same x y same None = refl
zone_same x y same (Some other) =
    ap (λ b. b && (x.row.zone == other.row.zone)) (region_same x y (and_parts _ _ same).0
    (Some other))
    ∙ ap (λ zone. in_region y other && (zone == other.row.zone))
    (sym (eqb-true y.row.zone x.row.zone (and_parts (in_region y x) (y.row.zone == x.row.zone)
    same).1))

server_same : (x y : Device) → on_server y x ≡ true → (other : Option Device) →
    pass_both on_server (Some x) other ≡ pass_both on_server (Some y) other
server_same x y same None = refl
server_same x y same (Some other) =
    ap (λ b. b && (x.row.address == other.row.address)) (zone_same x y (and_parts _ _ same).0
    (Some other))
    ∙ ap (λ address. in_zone y other && (address == other.row.address))
    (sym (eqb-true y.row.address x.row.address (and_parts (in_zone y x)
    (y.row.address == x.row.address) same).1))

on_same : (f g : ℕ → Bool) → ((other : ℕ) → f other ≡ g other) → (seat : Option ℕ) →
    is_on f seat ≡ is_on g seat
on_same f g same None = refl
on_same f g same (Some other) = same other

count_same : (f g : ℕ → Bool) → ((other : ℕ) → f other ≡ g other) → (row : List (Option ℕ)) →
    count_by (is_on f) row ≡ count_by (is_on g) row
count_same f g same [] = refl
count_same f g same (seat ∷ row) =
    let one = sum_by-cons (λ s. cond (is_on f s) 1 0) seat row in
    let other = sum_by-cons (λ s. cond (is_on g s) 1 0) seat row in
    let head = ap {B = ℕ} (λ test. cond test 1 0) (on_same f g same seat) in
    let tail = count_same f g same row in
    omega (arith, one, other, head, tail)

tier_same : (tier : Device → Device → Bool) (devices : List Device) (one other : ℕ) (x y : Device) →
    device_by_id one devices ≡ Some x → device_by_id other devices ≡ Some y
    → ((found : Option Device) → pass_both tier (Some x) found ≡ pass_both tier (Some y) found) →
    (row : List (Option ℕ))
    → count_by (is_on (λ n. pass_both tier (device_by_id one devices) (device_by_id n devices))) row
    ≡
    count_by (is_on (λ n. pass_both tier (device_by_id other devices) (device_by_id n devices))) row
tier_same tier devices one other x y there other_there same =
    count_same (λ n. pass_both tier (device_by_id one devices) (device_by_id n devices))
    (λ n. pass_both tier (device_by_id other devices) (device_by_id n devices))
    (λ n. ap (λ found. pass_both tier found (device_by_id n devices)) there ∙ same
    (device_by_id n devices) ∙ ap (λ found. pass_both tier found (device_by_id n devices))
    (sym other_there))

-- ---- so they are as crowded, down to it

region_floor : (a b least : ℕ × ℕ × ℕ) → a.0 ≡ b.0 → is_less b least ≡ false →
    is_less a (least.0, 0, 0) ≡ false
region_floor a b least region no_less = grind (arith, nat_tests)

zone_floor : (a b least : ℕ × ℕ × ℕ) → a.0 ≡ b.0 → a.1 ≡ b.1 → is_less b least ≡ false →
    is_less a (least.0, least.1, 0) ≡ false
zone_floor a b least region zone no_less = grind (arith, nat_tests)

server_floor : (a b least : ℕ × ℕ × ℕ) → a.0 ≡ b.0 → a.1 ≡ b.1 → a.2 ≡ b.2 →
    is_less b least ≡ false → is_less a least ≡ false
server_floor a b least region zone server no_less = grind (arith, nat_tests)

by_tier : (tier : Tier) (load : Load) (row : List (Option ℕ)) (one other : ℕ) (x y : Device)
    (least : ℕ × ℕ × ℕ) → device_by_id one load.devices ≡ Some x →
    device_by_id other load.devices ≡ Some
    y
    → shares tier y x ≡ true → is_less (crowd_in load row other) least ≡ false →
    is_less (crowd_in load row one) (cut tier least) ≡ false
by_tier Region load row one other x y least there other_there same no_less =
    region_floor (crowd_in load row one) (crowd_in load row other) least
    (tier_same in_region load.devices one other x y there other_there (region_same x y same)
    row) no_less
by_tier Zone load row one other x y least there other_there same no_less =
    zone_floor (crowd_in load row one) (crowd_in load row other) least
    (tier_same in_region load.devices one other x y there other_there
    (region_same x y (and_parts (in_region y x) (y.row.zone == x.row.zone) same).0) row)
    (tier_same in_zone load.devices one other x y there other_there (zone_same x y same) row)
    no_less
by_tier Server load row one other x y least there other_there same no_less =
    server_floor (crowd_in load row one) (crowd_in load row other) least
    (tier_same in_region load.devices one other x y there other_there
    (region_same x y ((and_parts (in_region y x) (y.row.zone == x.row.zone)
    (and_parts (in_zone y x) (y.row.address == x.row.address) same).0).0)) row)
    (tier_same in_zone load.devices one other x y there other_there
    (zone_same x y (and_parts (in_zone y x) (y.row.address == x.row.address) same).0) row)
    (tier_same on_server load.devices one other x y there other_there (server_same x y same)
    row) no_less

-- a device is as crowded as the one of its tier in a list
floor_one : (tier : Tier) (load : Load) → IsLoad load → (row : List (Option ℕ)) (places : List ℕ)
    (least : ℕ × ℕ × ℕ) (place k : ℕ) (x : Device) → slice_get load.devices place ≡ Some x
    → get_or places k 0 < length load.devices →
    pass_both (shares tier) (slice_get load.devices (get_or places k 0)) (Some x) ≡ true →
    is_less (crowd_in load row (id_at load.devices (get_or places k 0))) least ≡ false
    → is_less (crowd_in load row x.id) (cut tier least) ≡ false
floor_one tier load is row places least place k x at within shared no_less =
    let y = device_there load.devices (get_or places k 0) within in
    let named = id_at_is load.devices (get_or places k 0) y.0 y.1 in
    by_tier tier load row x.id y.0.id x y.0 least (device_of_at load.devices is.rise place x at)
    (device_of_at load.devices is.rise (get_or places k 0) y.0 y.1)
    (ap (λ found. pass_both (shares tier) found (Some x)) (sym y.1) ∙ shared)
    (ap (λ n. is_less (crowd_in load row n) least) (sym named) ∙ no_less)

floor_found : (tier : Tier) (load : Load) → IsLoad load → (row : List (Option ℕ)) (places : List ℕ)
    (least : ℕ × ℕ × ℕ) (place : ℕ) (x : Device) → AreTier tier load.devices places
    → ((k : ℕ) → k < length places →
    is_less (crowd_in load row (id_at load.devices (get_or places k 0))) least ≡ false) →
    slice_get load.devices place ≡ Some x
    → list_any (λ p. pass_both (shares tier) (slice_get load.devices p) (Some x)) places ≡ true →
    is_less (crowd_in load row x.id) (cut tier least) ≡ false
floor_found tier load is row places least place x are no_less at covered =
    let near = Any-from_list_any (λ p. pass_both (shares tier) (slice_get load.devices p) (Some x))
    places covered in
    let read : get_or places near.0 0 ≡ near.1 =
    sym (get_or_default_zero places near.0 near.1 near.2) ∙ near.3 in
    floor_one tier load is row places least place near.0 x at (are.within near.0 0 near.2)
    (ap (λ p. pass_both (shares tier) (slice_get load.devices p) (Some x)) read ∙ near.4)
    (no_less near.0 near.2)

-- what no device of a list with one in each tier is less crowded than no open device is, down to
-- that tier
pub floor_at : (tier : Tier) (load : Load) → IsLoad load → (row : List (Option ℕ)) (places : List ℕ)
    (least : ℕ × ℕ × ℕ) → AreTier tier load.devices places
    → ((k : ℕ) → k < length places →
    is_less (crowd_in load row (id_at load.devices (get_or places k 0))) least ≡ false) →
    IsFloor load row (cut tier least)
floor_at tier load is row places least are no_less id passes =
    let found = Any-from_list_any (λ (device : Device). (device.id == id) && is_open device)
    load.devices passes in
    let at : slice_get load.devices found.0 ≡ Some found.1 = slice_get-get_or load.devices found.0
    found.1 found.2 ∙ ap Some found.3 in
    let parts = and_parts (found.1.id == id) (is_open found.1) found.4 in
    let named = parts.0 in
    let opens = parts.1 in
    let covered = are.covered found.0 found.1 found.2 (ap is_open found.3 ∙ opens) in
    let shared = subst (λ (d : Device). list_any (λ place. pass_both (shares tier)
    (slice_get load.devices place) (Some d)) places ≡ true) found.3 covered in
    subst (λ n. is_less (crowd_in load row n) (cut tier least) ≡ false) (eqb-true _ _ named)
    (floor_found tier load is row places least found.0 found.1 are no_less at shared)
