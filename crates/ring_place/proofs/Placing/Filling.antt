-- Devices as they fill up.
use Rattle.std.proofs.Common.{◌≡◌, ◌==◌, ℕ, zero, suc, ◌+◌, ◌<◌, ◌≤◌, Bool, true, false, not, cond}
use Rattle.ring_words.specs.Limits.{greatest_long}
use Rattle.std.proofs.Common.{◌&&◌, List, [], ◌∷◌, length, Option, Some, None, refl, sym, ◌∙◌, ap}
use Rattle.std.proofs.Common.{subst, arith, inl, inr, slice_get, slice_index, set, get_or, nat_lt}
use Rattle.std.specs.List.{list_any}
use Rattle.std.proofs.lemmas.Bool.Decides.{nat_tests}
use Rattle.std.proofs.lemmas.Bool.{and_parts, eq-eqb, eqb-true}
use Rattle.std.proofs.lemmas.List.Folds.{Any-from_list_any, list_any_at}
use Rattle.ring_model.specs.Ring.{has_device, has_present}
use Rattle.ring_words.specs.declared.device.Device.{Device}
use Rattle.ring_share.specs.Crowd.{crowd, device_by_id, in_region, in_zone, is_less, is_outside}
use Rattle.ring_share.specs.Crowd.{on_server, others, pass_both, seats_on, tiers_of}
use Rattle.ring_share.specs.Room.{has_open, place_of}
use Rattle.ring_share.specs.Want.{is_open}
use Rattle.ring_room.specs.Load.{Load, has_room_in, have_in, is_free_in, load_put, want_in}
use Rattle.ring_place.specs.Inner.Placing.{Fills, IsAlone, IsPlaced, MayTakeSeat, RowBegun}
use Rattle.ring_room.specs.Free.{has_free_in}
use Rattle.ring_place.proofs.Placing.SettledSeats.{AreTiers, IsSame}

-- ---- tiers

both_symm : (test : Device → Device → Bool) → ((x y : Device) → test x y ≡ test y x) →
    (a b : Option Device) → pass_both test a b ≡ pass_both test b a
both_symm test symm (Some a) (Some b) = symm a b
both_symm test symm (Some a) None = refl
both_symm test symm None (Some b) = refl
both_symm test symm None None = refl

both_trans : (test : Device → Device → Bool) → ((x y z : Device) → test x y ≡ true →
    test y z ≡ true → test x z ≡ true) → (a b c : Option Device)
    → pass_both test a b ≡ true → pass_both test b c ≡ true → pass_both test a c ≡ true
both_trans test trans (Some a) (Some b) (Some c) h k = trans a b c h k
both_trans test trans (Some a) (Some b) None h k = k
both_trans test trans (Some a) None c h k = absurd (cc h)
both_trans test trans None b c h k = h

both_within : (test wider : Device → Device → Bool) → ((x y : Device) → test x y ≡ true →
    wider x y ≡ true) → (a b : Option Device)
    → pass_both test a b ≡ true → pass_both wider a b ≡ true
both_within test wider within (Some a) (Some b) h = within a b h
both_within test wider within (Some a) None h = h
both_within test wider within None b h = h

tier_holds : (test : Device → Device → Bool) → ((x y : Device) → test x y ≡ test y x) →
    ((x y z : Device) → test x y ≡ true → test y z ≡ true → test x z ≡ true)
    → (devices : List Device) → IsSame (λ a b. pass_both test (device_by_id a devices)
    (device_by_id b devices))
tier_holds test symm trans devices = record {
  symm = λ a b. both_symm test symm (device_by_id a devices) (device_by_id b devices);
  trans = λ a b c h k. both_trans test trans (device_by_id a devices) (device_by_id b devices)
      (device_by_id c devices) h k;
}

region_symm : (x y : Device) → in_region x y ≡ in_region y x
region_symm x y = grind (arith, nat_tests)

region_trans : (x y z : Device) → in_region x y ≡ true → in_region y z ≡ true → in_region x z ≡ true
region_trans x y z h k = grind (arith, nat_tests)

zone_symm : (x y : Device) → in_zone x y ≡ in_zone y x
zone_symm x y = grind (arith, nat_tests)

zone_trans : (x y z : Device) → in_zone x y ≡ true → in_zone y z ≡ true → in_zone x z ≡ true
zone_trans x y z h k = grind (arith, nat_tests)

server_symm : (x y : Device) → on_server x y ≡ on_server y x
server_symm x y = grind (arith, nat_tests)

server_trans : (x y z : Device) → on_server x y ≡ true → on_server y z ≡ true → on_server x z ≡ true
server_trans x y z h k = grind (arith, nat_tests)

zone_region : (x y : Device) → in_zone x y ≡ true → in_region x y ≡ true
zone_region x y h = grind (arith, nat_tests)

server_zone : (x y : Device) → on_server x y ≡ true → in_zone x y ≡ true
server_zone x y h = grind (arith, nat_tests)

-- the tiers of devices are tiers
pub tiers_hold : (devices : List Device) → AreTiers (tiers_of devices)
tiers_hold devices = record {
  region = tier_holds in_region region_symm region_trans devices;
  zone = tier_holds in_zone zone_symm zone_trans devices;
  server = tier_holds on_server server_symm server_trans devices;
  zone_in_region = λ a b h. both_within in_zone in_region zone_region (device_by_id a devices)
      (device_by_id b devices) h;
  server_in_zone = λ a b h. both_within on_server in_zone server_zone (device_by_id a devices)
      (device_by_id b devices) h;
}

-- ---- free devices

true_both : (a b : Bool) → a ≡ true → b ≡ true → (a && b) ≡ true
true_both a b h k = rw (h, k) refl

pub free_room : (load : Load) (row : List (Option ℕ)) (id : ℕ) → is_free_in load row id ≡ true →
    has_room_in load id ≡ true
free_room load row id free = (and_parts (has_room_in load id) (is_outside row id) free).0

pub free_outside : (load : Load) (row : List (Option ℕ)) (id : ℕ) → is_free_in load row id ≡ true →
    seats_on id row ≡ 0
free_outside load row id free = eqb-true (seats_on id row) 0 (and_parts (has_room_in load id)
    (is_outside row id) free).1

pub free_if : (load : Load) (row : List (Option ℕ)) (id : ℕ) → has_room_in load id ≡ true →
    seats_on id row ≡ 0 → is_free_in load row id ≡ true
free_if load row id room outside = true_both (has_room_in load id) (is_outside row id) room
    (eq-eqb (seats_on id row) 0 outside)

pub room_open : (load : Load) (id : ℕ) → has_room_in load id ≡ true →
    has_open id load.devices ≡ true
room_open load id room = (and_parts (has_open id load.devices) (nat_lt (have_in load id)
    (want_in load id)) room).0

pub room_less : (load : Load) (id : ℕ) → has_room_in load id ≡ true → have_in load id < want_in load
    id
room_less load id room = let less =
    (and_parts (has_open id load.devices) (nat_lt (have_in load id) (want_in load id)) room).1 in
    below (have_in load id) (want_in load id) less
  where
    below : (m n : ℕ) → nat_lt m n ≡ true → m < n
    below m n h = grind (arith, nat_tests)

-- a device that is open is there
pub record Stands (test : Device → Bool) (devices : List Device) (id : ℕ) : Type 0 where
  pub place : ℕ
  pub device : Device
  pub within : place < length devices
  pub at : get_or devices place device ≡ device
  pub named : device.id ≡ id
  pub passes : test device ≡ true

pub stands : (test : Device → Bool) (devices : List Device) (id : ℕ) →
    list_any (λ (device : Device). (device.id == id) && test device) devices ≡ true →
    Stands test devices id
stands test devices id h =
    let found = Any-from_list_any (λ (device : Device). (device.id == id) && test device) devices h
    in
    let both = and_parts (found.1.id == id) (test found.1) found.4 in
    record {
      place = found.0;
      device = found.1;
      within = found.2;
      at = found.3;
      named =
          eqb-true _ _ both.0;
      passes = both.1;
    }

pub stands_any : (test also : Device → Bool) (devices : List Device) (id : ℕ)
    (s : Stands test devices id) → also s.device ≡ true → list_any also devices ≡ true
stands_any test also devices id s passes = list_any_at also devices s.place s.device s.within
    (ap also s.at ∙ passes)

pub present_known : (devices : List Device) (id : ℕ) → has_present id devices ≡ true →
    has_device id devices ≡ true
present_known devices id h =
    let s = stands (λ (device : Device). not device.removed) devices id h in
    stands_any (λ (device : Device). not device.removed) (λ (device : Device). device.id == id)
    devices id s (eq-eqb _ _ s.named)

pub some_free : (load : Load) (row : List (Option ℕ)) (id : ℕ) → is_free_in load row id ≡ true →
    has_free_in load row ≡ true
some_free load row id free =
    let s = stands is_open load.devices id (room_open load id (free_room load row id free)) in
    stands_any is_open (λ device. is_free_in load row device.id) load.devices id s
    (ap (is_free_in load row) s.named ∙ free)

pub free_some : (load : Load) (row : List (Option ℕ)) → has_free_in load row ≡ true → (id : ℕ) ×
    (is_free_in load row id ≡ true)
free_some load row h = let found = Any-from_list_any (λ (device : Device). is_free_in load row
    device.id) load.devices h in (found.1.id, found.4)

-- ---- fuller

less_room : (o : Bool) (a b w : ℕ) → a ≤ b → (o && nat_lt b w) ≡ true → (o && nat_lt a w) ≡ true
less_room o a b w le h = grind (arith, nat_tests)

-- as devices fill up, room shrinks
pub room_shrinks : (old new : Load) → Fills old new → (id : ℕ) → has_room_in new id ≡ true →
    has_room_in old id ≡ true
room_shrinks old new fills id h =
    let opens : has_open id new.devices ≡ has_open id old.devices = ap (has_open id) fills.devices
    in
    let want : want_in new id ≡ want_in old id =
    ap (λ (ws : List ℕ). slice_index ws (place_of id new.devices)) fills.wanted ∙ ap
    (λ (ds : List Device). slice_index old.wanted (place_of id ds)) fills.devices in
    less_room (has_open id old.devices) (have_in old id) (have_in new id) (want_in old id)
    (fills.counts id)
    (subst (λ b. (b && nat_lt (have_in new id) (want_in old id)) ≡ true) opens
    (subst (λ w. (has_open id new.devices && nat_lt (have_in new id) w) ≡ true) want h))

pub want_fills : (old new : Load) → Fills old new → (id : ℕ) → want_in new id ≡ want_in old id
want_fills old new fills id = ap (λ (ws : List ℕ). slice_index ws (place_of id new.devices))
    fills.wanted ∙ ap (λ (ds : List Device). slice_index old.wanted (place_of id ds)) fills.devices

pub free_shrinks : (old new : Load) → Fills old new → (row : List (Option ℕ)) (id : ℕ) →
    is_free_in new row id ≡ true → is_free_in old row id ≡ true
free_shrinks old new fills row id free =
    free_if old row id (room_shrinks old new fills id (free_room new row id free))
    (free_outside new row id free)

set_more : (counts : List ℕ) (here x value : ℕ) → get_or counts here 0 ≤ value →
    get_or counts x 0 ≤ get_or (set counts here value) x 0
set_more [] here x value le = omega arith
set_more (c ∷ cs) zero zero value le = le
set_more (c ∷ cs) zero (suc x) value le = omega arith
set_more (c ∷ cs) (suc here) zero value le = omega arith
set_more (c ∷ cs) (suc here) (suc x) value le = set_more cs here x value le

one_or_none : (n : ℕ) → n ≤ cond (nat_lt n greatest_long) (n + 1) n
one_or_none n = grind (arith, nat_tests)

pub fills_put : (load : Load) (id : ℕ) → Fills load (load_put load id)
fills_put load id = record {
  devices = refl;
  wanted = refl;
  counts = λ x. set_more load.counts (place_of id load.devices) (place_of x load.devices)
      (cond (nat_lt (have_in load id) greatest_long) (have_in load id + 1) (have_in load id))
      (one_or_none (have_in load id));
}

pub fills_trans : (a b c : Load) → Fills a b → Fills b c → Fills a c
fills_trans a b c f g = record {
  devices = g.devices ∙ f.devices;
  wanted = g.wanted ∙ f.wanted;
  counts = λ id. let x = f.counts id in let y = g.counts id in omega (arith, x, y);
}

pub fills_self : (a : Load) → Fills a a
fills_self a = record { devices = refl; wanted = refl; counts = λ id. omega arith }

abbrev crowd_of : List (Option ℕ) → ℕ → List Device → ℕ → ℕ × ℕ × ℕ
crowd_of row replica devices id = crowd (tiers_of devices) (others row replica) id

-- a seat that was put stays so as devices fill up
pub placed_fills : (a b : Load) → Fills a b → (old row : List (Option ℕ)) (replica : ℕ) →
    IsPlaced a old row replica → IsPlaced b old row replica
placed_fills a b fills old row replica placed = record {
  seated = (
    placed.seated.0,
    placed.seated.1,
    subst (λ (ds : List Device). MayTakeSeat ds (slice_get old replica) placed.seated.0)
        (sym fills.devices) placed.seated.2,
  );
  settled = λ e at d free. subst (λ (ds : List Device). is_less (crowd_of row replica ds d)
      (crowd_of row replica ds e) ≡ false) (sym fills.devices)
      (placed.settled e at d (free_shrinks a b fills row d free));
  gain = λ from to was present is ne. elim (placed.gain from to was
      (subst (λ (ds : List Device). has_present from ds ≡ true) fills.devices present) is ne) [
        | inl less ↦ inl (subst (λ (ds : List Device). is_less (crowd_of row replica ds to)
            (crowd_of row replica ds from) ≡ true) (sym fills.devices) less)
        | inr full ↦ inr (let more = fills.counts from in let same = want_fills a b fills from in
            omega (arith, more, same, full))
      ];
}

pub begun_fills : (a b : Load) → Fills a b → (old lifted row : List (Option ℕ)) →
    RowBegun a old lifted row → RowBegun b old lifted row
begun_fills a b fills old lifted row begun = record {
  as_many = begun.as_many;
  alone = subst (λ (ds : List Device). IsAlone ds old lifted) (sym fills.devices) begun.alone;
  kept = begun.kept;
  placed = λ replica id up at. placed_fills a b fills old row replica
      (begun.placed replica id up at);
}
