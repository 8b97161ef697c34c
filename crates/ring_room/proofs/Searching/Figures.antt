-- What is read at a device's place is what it wants and what it has.
use Rattle.std.proofs.Common.{◌≡◌, ℕ, ◌-◌, ◌<◌, length, get_or, sym, ap, ap₂, ◌∙◌, arith}
use Rattle.std.specs.Prelude.{slice_index}
use Rattle.ring_share.specs.Room.{place_of}
use Rattle.ring_room.specs.Load.{Load, IsLoad, have_in, load_take, want_in}
use Rattle.ring_room.proofs.Searching.DevicesAt.{index_is, is_load}
use Rattle.ring_room.proofs.Searching.RoomyPlaces.{with_count_at}

pub want_at : (load now : Load) → load ≡ now → IsLoad load → (place want : ℕ) →
    place < length now.devices → want ≡ get_or load.wanted place want →
    want ≡ slice_index now.wanted place
want_at load now same is place want lt read =
    let there = is_load load now same is in
    sym (index_is now.wanted place want (let n = there.wants in omega (arith, n, lt))
    (read ∙ ap (λ (l : Load). get_or l.wanted place want) same))

pub count_at : (load now : Load) → load ≡ now → IsLoad load → (place count : ℕ) →
    place < length now.devices → count ≡ get_or load.counts place count →
    count ≡ slice_index now.counts place
count_at load now same is place count lt read =
    let there = is_load load now same is in
    sym (index_is now.counts place count (let n = there.counted in omega (arith, n, lt))
    (read ∙ ap (λ (l : Load). get_or l.counts place count) same))

pub want_of : (load now : Load) → load ≡ now → IsLoad load → (id place want : ℕ) →
    place ≡ place_of id now.devices → place < length now.devices →
    want ≡ get_or load.wanted place want → want ≡ want_in now id
want_of load now same is id place want here lt read = want_at load now same is place want lt read
    ∙ ap (λ (p : ℕ). slice_index now.wanted p) here

pub have_of : (load now : Load) → load ≡ now → IsLoad load → (id place count : ℕ) →
    place ≡ place_of id now.devices → place < length now.devices →
    count ≡ get_or load.counts place count → count ≡ have_in now id
have_of load now same is id place count here lt read = count_at load now same is place count lt read
    ∙ ap (λ (p : ℕ). slice_index now.counts p) here

-- one seat less at a device's place is one less of the device
pub taken_there : (load now new : Load) → load ≡ now → IsLoad load → (id place count less : ℕ) →
    place ≡ place_of id now.devices → place < length now.devices →
    count ≡ get_or load.counts place count → less ≡ count - 1 → new ≡ with_count_at now place less →
    new ≡ load_take now id
taken_there load now new same is id place count less here lt read less_is new_is =
    new_is ∙ ap₂ (with_count_at now) here (less_is ∙ ap (λ (n : ℕ). n - 1)
    (have_of load now same is id place count here lt read))
