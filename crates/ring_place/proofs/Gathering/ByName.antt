-- What is gathered, by name.
use Rattle.std.proofs.Common.{◌≡◌, ◌∙◌, ℕ, ◌<◌, Bool, true, false, cond, List, [], ◌∷◌, length, map}
use Rattle.std.proofs.Common.{get_or, set, Option, Some, None, ap, sym, arith, refl}
use Rattle.std.specs.Prelude.{nat_lt, slice_get, slice_index, slice_index_or}
use Rattle.std.specs.List.{list_any}
use Rattle.std.proofs.lemmas.List.{length-map}
use Rattle.ring_model.specs.Ring.{RingRecord, has_device, has_present}
use Rattle.ring_share.specs.Crowd.{rows_of}
use Rattle.ring_share.specs.Room.{have}
use Rattle.ring_room.specs.Load.{Load, IsLoad, have_in, load_take}
use Rattle.ring_place.specs.declared.gather.Pass.{Pass}
use Rattle.ring_place.specs.declared.gather.Pass.TheVariants.{First}
use Rattle.ring_room.specs.Free.{has_free_in}
use Rattle.ring_place.specs.Made.{is_lost_in}
use Rattle.ring_place.specs.Made.{Gathering, Lifting, best_seat, device_at}
use Rattle.ring_place.specs.Made.{first_lifting, first_passed, gather_at, gather_by}
use Rattle.ring_place.specs.Made.{later_lifting, left_of, lifted_at, lifting, load_of}
use Rattle.ring_place.specs.Made.{locks_of, lose_by, lose_seat, lost_row, passed, take_by}
use Rattle.ring_place.specs.Made.{surplus_passed, without}
use Rattle.ring_room.specs.Search.{roomy_places}
use Rattle.ring_room.specs.Rows.{is_empty}
use Rattle.ring_place.specs.Made.{row_at}
use Rattle.std.proofs.Common.{zero, suc, ◌||◌, ◌==◌}
use Rattle.std.proofs.lemmas.Bool.{eq-eqb}
use Rattle.std.proofs.lemmas.Grind.{same_number_lists}
use Rattle.std.proofs.lemmas.Option.{same_Some}
use Rattle.ring_words.specs.declared.device.Device.{Device}
use Rattle.ring_share.specs.Room.{place_of}
use Rattle.ring_room.proofs.Searching.DevicesAt.{place_is}
use Rattle.ring_room.proofs.Searching.FreeOutside.{device_there}

-- ---- one partition

pub lose_gone : (replica id : ℕ) (now : Lifting) → get_or now.row replica None ≡ Some id
    → has_present id now.load.devices ≡ false
    → ◌≡◌ {A = Lifting} (record { load = load_take now.load id; row = set now.row replica None }) (lose_seat replica now)
lose_gone replica id now at gone =
    let after : Lifting = record { load = load_take now.load id; row = set now.row replica None } in
    ap (λ b. cond b now after) (sym gone) ∙ ap (lose_by replica now) (sym at)

pub lose_stays : (replica id : ℕ) (now : Lifting) → get_or now.row replica None ≡ Some id
    → has_present id now.load.devices ≡ true → now ≡ lose_seat replica now
lose_stays replica id now at there =
    let after : Lifting = record { load = load_take now.load id; row = set now.row replica None } in
    ap (λ b. cond b now after) (sym there) ∙ ap (lose_by replica now) (sym at)

pub lose_none : (replica : ℕ) (now : Lifting) → get_or now.row replica None ≡ None → now ≡ lose_seat replica now
lose_none replica now at = ap (lose_by replica now) (sym at)

pub lifted_some : (kept load : Load) (row new : List (Option ℕ)) (first : Option ℕ) (id : ℕ)
    → Some id ≡ device_at row first → new ≡ without row first → load ≡ load_take kept id
    → ◌≡◌ {A = Lifting} (record { load = load; row = new }) (lifted_at kept row first)
lifted_some kept load row new first id device left taken =
    ap (λ l. record { load = l; row = new }) (taken ∙ ap (take_by kept) device)
    ∙ ap (λ r. record { load = take_by kept (device_at row first); row = r }) left

pub lifted_none : (kept : Load) (row new : List (Option ℕ)) (first : Option ℕ)
    → None ≡ device_at row first → new ≡ without row first
    → ◌≡◌ {A = Lifting} (record { load = kept; row = new }) (lifted_at kept row first)
lifted_none kept row new first device left =
    ap (λ l. record { load = l; row = new }) (ap (take_by kept) device)
    ∙ ap (λ r. record { load = take_by kept (device_at row first); row = r }) left

abbrev pub same_lifting : Load → List (Option ℕ) → Lifting
same_lifting kept row = record { load = kept; row = row }

abbrev unlost : Load → Load → List (Option ℕ) → Bool → Lifting
unlost was kept row locked = cond locked (same_lifting kept row) (lifted_at kept row (best_seat First was kept row))

pub first_lost : (was kept : Load) (locked : Bool) (row : List (Option ℕ))
    → list_any (is_lost_in kept.devices) row ≡ true → lost_row kept row ≡ first_lifting was kept locked row
first_lost was kept locked row lost = ap (λ b. cond b (lost_row kept row) (unlost was kept row locked)) (sym lost)

pub first_locked : (was kept : Load) (locked : Bool) (row : List (Option ℕ))
    → list_any (is_lost_in kept.devices) row ≡ false → locked ≡ true
    → same_lifting kept row ≡ first_lifting was kept locked row
first_locked was kept locked row lost is = ap (unlost was kept row) (sym is)
    ∙ ap (λ b. cond b (lost_row kept row) (unlost was kept row locked)) (sym lost)

pub first_at : (was kept : Load) (locked : Bool) (row : List (Option ℕ))
    → list_any (is_lost_in kept.devices) row ≡ false → locked ≡ false
    → lifted_at kept row (best_seat First was kept row) ≡ first_lifting was kept locked row
first_at was kept locked row lost is = ap (unlost was kept row) (sym is)
    ∙ ap (λ b. cond b (lost_row kept row) (unlost was kept row locked)) (sym lost)

abbrev if_free : Pass → Load → Load → List (Option ℕ) → Bool → Lifting
if_free pass was kept row free = cond free (lifted_at kept row (best_seat pass was kept row))
    (same_lifting kept row)

abbrev if_full : Pass → Load → Load → List (Option ℕ) → Bool → Lifting
if_full pass was kept row empty = cond empty (same_lifting kept row) (if_free pass was kept row
    (has_free_in was row))

abbrev if_locked : Pass → Load → Load → List (Option ℕ) → Bool → Lifting
if_locked pass was kept row locked = cond locked (same_lifting kept row) (if_full pass was kept row
    (list_any is_empty row))

pub later_at : (pass : Pass) (was kept : Load) (locked : Bool) (row : List (Option ℕ)) →
    locked ≡ false → list_any is_empty row ≡ false → has_free_in was row ≡ true
    → lifted_at kept row (best_seat pass was kept row) ≡ later_lifting pass was kept locked row
later_at pass was kept locked row is empty free = ap (if_free pass was kept row) (sym free)
    ∙ ap (if_full pass was kept row) (sym empty) ∙ ap (if_locked pass was kept row) (sym is)

-- ---- all partitions

pub gathered_step : (pass : Pass) (was : Load) (locked : List Bool) (order : List ℕ) (n : ℕ) (now : Gathering)
    (load : Load) (row other : List (Option ℕ)) (rows : List (List (Option ℕ)))
    → other ≡ row_at now.rows (slice_index order n)
    → ◌≡◌ {A = Lifting} (record { load = load; row = row }) (lifting pass was now.load
    (slice_index_or locked (slice_index order n) false) other)
    → rows ≡ set now.rows (slice_index order n) row
    → ◌≡◌ {A = Gathering} (record { load = load; rows = rows }) (gather_at pass was locked order n now)
gathered_step pass was locked order n now load row other rows is lifted sets =
    ap (λ r. record { load = load; rows = r }) sets
    ∙ ap (gather_by now (slice_index order n)) lifted
    ∙ ap (λ r. gather_by now (slice_index order n) (lifting pass was now.load
    (slice_index_or locked (slice_index order n) false) r)) is

-- ---- all passes

pub left_first : (ring : RingRecord) (wanted : List ℕ) (hour : ℕ) (order : List ℕ) (was kept : Load)
    (seats : List (List (Option ℕ))) (locked : List Bool) → was ≡ load_of ring wanted → kept ≡ was
    → seats ≡ rows_of ring → locked ≡ locks_of ring hour
    → passed First was locked order (record { load = kept; rows = seats }) ≡ first_passed ring wanted hour order
left_first ring wanted hour order was kept seats locked is same rows locks =
    ap (λ k. passed First was locked order (record { load = k; rows = seats })) same
    ∙ ap (λ r. passed First was locked order (record { load = was; rows = r })) rows
    ∙ ap (λ l. passed First was l order (record { load = was; rows = rows_of ring })) locks
    ∙ ap (λ w. passed First w (locks_of ring hour) order (record { load = w; rows = rows_of ring })) is

abbrev left_if : RingRecord → List ℕ → ℕ → List ℕ → Bool → Gathering
left_if ring wanted hour order some = cond some (surplus_passed (load_of ring wanted)
    (locks_of ring hour) order (first_passed ring wanted hour order))
    (first_passed ring wanted hour order)

pub left_once : (ring : RingRecord) (wanted : List ℕ) (hour : ℕ) (order : List ℕ) (was : Load)
    → was ≡ load_of ring wanted → nat_lt 0 (length (roomy_places was)) ≡ false
    → first_passed ring wanted hour order ≡ left_of ring wanted hour order
left_once ring wanted hour order was is none = ap (left_if ring wanted hour order)
    (sym none ∙ ap (λ w. nat_lt 0 (length (roomy_places w))) is)

pub left_whole : (ring : RingRecord) (wanted : List ℕ) (hour : ℕ) (order : List ℕ) (was : Load)
    (locked : List Bool) (first : Gathering)
    → was ≡ load_of ring wanted → locked ≡ locks_of ring hour
    → first ≡ first_passed ring wanted hour order
    → nat_lt 0 (length (roomy_places was)) ≡ true
    → surplus_passed was locked order first ≡ left_of ring wanted hour order
left_whole ring wanted hour order was locked first is locks passes some =
    ap (surplus_passed was locked order) passes
    ∙ ap (λ l. surplus_passed was l order (first_passed ring wanted hour order)) locks
    ∙ ap (λ w. surplus_passed w (locks_of ring hour) order (first_passed ring wanted hour order)) is
    ∙ ap (left_if ring wanted hour order)
    (sym some ∙ ap (λ w. nat_lt 0 (length (roomy_places w))) is)

-- ---- how full the devices of a ring are

map_get : {X : Type 0} (f : X → ℕ) (xs : List X) (k : ℕ) (x : X) → slice_get xs k ≡ Some x →
    get_or (map f xs) k 0 ≡ f x
map_get f [] k x at = absurd (cc at)
map_get f (y ∷ ys) zero x at = ap f (same_Some _ _ at)
map_get f (y ∷ ys) (suc k) x at = map_get f ys k x at

or_right : (a b : Bool) → b ≡ true → (a || b) ≡ true
or_right true b h = refl
or_right false b h = h

stands_known : (devices : List Device) (k : ℕ) (x : Device) → slice_get devices k ≡ Some x →
    has_device x.id devices ≡ true
stands_known [] k x at = absurd (cc at)
stands_known (y ∷ ys) zero x at = ap (λ b. b || has_device x.id ys)
    (eq-eqb _ _ (ap (λ (d : Device). d.id) (same_Some y x at)))
stands_known (y ∷ ys) (suc k) x at = or_right (y.id == x.id) (has_device x.id ys) (stands_known ys k x at)

pub load_is : (ring : RingRecord) (load : Load) → IsLoad load → load.devices ≡ ring.devices
    → ((id : ℕ) → has_device id ring.devices ≡ true → have_in load id ≡ have ring id)
    → load ≡ load_of ring load.wanted
load_is ring load is devices counts =
    let pointwise : (k : ℕ) → k < length load.counts → get_or load.counts k 0 ≡
    get_or (map (λ device. have ring device.id) load.devices) k 0 = λ k lt.
    let counted = is.counted in
    let below : k < length load.devices = omega (arith, lt, counted) in
    let there = device_there load.devices k below in
    let here : place_of there.0.id load.devices ≡ k = place_is load.devices is.rise k there.0 there.1 in
    let known : has_device there.0.id ring.devices ≡ true = ap (has_device there.0.id) (sym devices)
    ∙ stands_known load.devices k there.0 there.1 in
    ap (λ n. get_or load.counts n 0) (sym here)
    ∙ counts there.0.id known
    ∙ sym (map_get (λ device. have ring device.id) load.devices k there.0 there.1) in
    let same : load.counts ≡ map (λ device. have ring device.id) ring.devices =
    same_number_lists load.counts (map (λ device. have ring device.id) load.devices)
    (is.counted ∙ sym (length-map load.devices (λ device. have ring device.id))) pointwise
    ∙ ap (λ ds. map (λ (device : Device). have ring device.id) ds) devices in
    ap (λ ds. record { devices = ds; wanted = load.wanted; counts = load.counts }) devices
    ∙ ap (λ cs. record { devices = ring.devices; wanted = load.wanted; counts = cs }) same
