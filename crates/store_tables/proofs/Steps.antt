-- What the statements make of the store, and show of it.
use Rattle.std.proofs.Common.{◌≡◌, ◌<◌, ℕ, ℤ, List, [], Ok, refl, slice_get, option_map}
use Rattle.std.specs.FinMap.{get}
use Rattle.sqlite_value.specs.Order.{Row}
use Rattle.sqlite.specs.State.{State, Executes, Shown}
use Rattle.store_model.specs.Contents.{with_device_row, with_meta_row, with_part, with_request}
use Rattle.store_model.specs.Contents.{with_published_row, with_ring_row, without_device}
use Rattle.store_model.specs.Contents.{without_moved, without_seats}
use Rattle.store_model.specs.Entries.{NameNumber, Device, Meta, Part, Request, Ring}
use Rattle.store_tables.specs.Tables.{store_schema}
use Rattle.store_tables.specs.Entries.{meta_rows, ring_rows, device_rows, seat_rows, moved_rows}
use Rattle.store_tables.specs.Entries.{published_rows, request_rows, part_rows}
use Rattle.store_tables.specs.Contents.{contents_of}
use Rattle.store_tables.specs.Store.{IsStore, Becomes}
use Rattle.store_tables.specs.Inner.Texts.{add_part, clear_moved, clear_seat, drop_device}
use Rattle.store_tables.specs.Inner.Texts.{pick_request, put_device, put_meta, put_published}
use Rattle.store_tables.specs.Inner.Texts.{put_request, put_ring, set_meta, set_part, set_ring}
use Rattle.store_tables.specs.Inner.Told.{told}
use Rattle.store_tables.proofs.Plain.Adds.{adds_row}
use Rattle.store_tables.proofs.Plain.Drops.{drops_all, drops_row}
use Rattle.store_tables.proofs.Plain.Puts.{puts_row}
use Rattle.store_tables.proofs.Plain.Queries.{shows_one}
use Rattle.store_tables.proofs.Plain.Updates.{sets_row}
use Rattle.store_tables.proofs.Tables.Facts.{meta_facts, ring_facts, device_facts, seat_facts}
use Rattle.store_tables.proofs.Tables.Facts.{moved_facts, published_facts, request_facts}
use Rattle.store_tables.proofs.Tables.Facts.{part_facts}
use Rattle.store_tables.proofs.Tables.Lists.{key_params, request_picks}
use Rattle.store_tables.proofs.Tables.Texts.{meta_puts, meta_sets, ring_puts, ring_sets, device_adds}
use Rattle.store_tables.proofs.Tables.Texts.{device_drops, by_key, seat_clears, all_seats_pass}
use Rattle.store_tables.proofs.Tables.Texts.{moved_clears, all_moved_pass, published_puts}
use Rattle.store_tables.proofs.Tables.Texts.{request_adds, part_adds, part_sets}
use Rattle.store_tables.proofs.Living.{becomes, lives_in}

pub puts_meta : (old new : State) (key : ℤ) (value : Meta) (count : ℕ) → IsStore old.now
    → Executes put_meta (meta_rows.values key value) old new (Ok count)
    → Becomes new.now (with_meta_row (contents_of old.now.trees) key value)
puts_meta old new key value count is h =
    becomes meta_rows (λ c m. record c { meta = m }) (λ _ _. refl) old.now new.now _
    (puts_row store_schema meta_rows meta_facts put_meta meta_puts key value
    old new count (lives_in old.now is) h)

-- one row was written over, or none
pub sets_meta : (old new : State) (key : ℤ) (value : Meta) (count : ℕ) → IsStore old.now
    → Executes set_meta (meta_rows.values key value) old new (Ok count)
    → (count ≡ 0 → Becomes new.now (contents_of old.now.trees))
    × (0 < count → Becomes new.now (with_meta_row (contents_of old.now.trees) key value))
sets_meta old new key value count is h =
    let it = sets_row store_schema meta_rows meta_facts set_meta meta_sets key value
    old new count (lives_in old.now is) h in
    let so = becomes meta_rows (λ c m. record c { meta = m }) (λ _ _. refl) old.now new.now in
    (λ none. so _ (it.0 none), λ some. so _ (it.1 some))

pub puts_ring : (old new : State) (key : List ℕ) (value : Ring) (count : ℕ) → IsStore old.now
    → Executes put_ring (ring_rows.values key value) old new (Ok count)
    → Becomes new.now (with_ring_row (contents_of old.now.trees) key value)
puts_ring old new key value count is h =
    becomes ring_rows (λ c m. record c { rings = m }) (λ _ _. refl) old.now new.now _
    (puts_row store_schema ring_rows ring_facts put_ring ring_puts key value
    old new count (lives_in old.now is) h)

-- one row was written over, or none
pub sets_ring : (old new : State) (key : List ℕ) (value : Ring) (count : ℕ) → IsStore old.now
    → Executes set_ring (ring_rows.values key value) old new (Ok count)
    → (count ≡ 0 → Becomes new.now (contents_of old.now.trees))
    × (0 < count → Becomes new.now (with_ring_row (contents_of old.now.trees) key value))
sets_ring old new key value count is h =
    let it = sets_row store_schema ring_rows ring_facts set_ring ring_sets key value
    old new count (lives_in old.now is) h in
    let so = becomes ring_rows (λ c m. record c { rings = m }) (λ _ _. refl) old.now new.now in
    (λ none. so _ (it.0 none), λ some. so _ (it.1 some))

pub adds_device : (old new : State) (key : NameNumber) (value : Device) (count : ℕ)
    → IsStore old.now
    → Executes put_device (device_rows.values key value) old new (Ok count)
    → Becomes new.now (with_device_row (contents_of old.now.trees) key value)
adds_device old new key value count is h =
    becomes device_rows (λ c m. record c { devices = m }) (λ _ _. refl) old.now new.now _
    (adds_row store_schema device_rows device_facts put_device device_adds key value
    old new count (lives_in old.now is) h)

pub drops_device : (old new : State) (key : NameNumber) (count : ℕ) → IsStore old.now
    → Executes drop_device (key_params key) old new (Ok count)
    → Becomes new.now (without_device (contents_of old.now.trees) key)
drops_device old new key count is h =
    becomes device_rows (λ c m. record c { devices = m }) (λ _ _. refl) old.now new.now _
    (drops_row store_schema device_rows device_facts drop_device device_drops key_params by_key key
    old new count (lives_in old.now is) h)

pub clears_seat : (old new : State) (count : ℕ) → IsStore old.now
    → Executes clear_seat [] old new (Ok count)
    → Becomes new.now (without_seats (contents_of old.now.trees))
clears_seat old new count is h =
    becomes seat_rows (λ c m. record c { seats = m }) (λ _ _. refl) old.now new.now _
    (drops_all store_schema seat_rows seat_facts clear_seat seat_clears all_seats_pass old new count
    (lives_in old.now is) h)

pub clears_moved : (old new : State) (count : ℕ) → IsStore old.now
    → Executes clear_moved [] old new (Ok count)
    → Becomes new.now (without_moved (contents_of old.now.trees))
clears_moved old new count is h =
    becomes moved_rows (λ c m. record c { moved = m }) (λ _ _. refl) old.now new.now _
    (drops_all store_schema moved_rows moved_facts clear_moved moved_clears all_moved_pass old new
    count (lives_in old.now is) h)

pub puts_published : (old new : State) (key : NameNumber) (value : List ℕ) (count : ℕ)
    → IsStore old.now
    → Executes put_published (published_rows.values key value) old new (Ok count)
    → Becomes new.now (with_published_row (contents_of old.now.trees) key value)
puts_published old new key value count is h =
    becomes published_rows (λ c m. record c { published = m }) (λ _ _. refl) old.now new.now _
    (puts_row store_schema published_rows published_facts put_published published_puts key value
    old new count (lives_in old.now is) h)

pub adds_request : (old new : State) (key : NameNumber) (value : Request) (count : ℕ)
    → IsStore old.now
    → Executes put_request (request_rows.values key value) old new (Ok count)
    → Becomes new.now (with_request (contents_of old.now.trees) key value)
adds_request old new key value count is h =
    becomes request_rows (λ c m. record c { requests = m }) (λ _ _. refl) old.now new.now _
    (adds_row store_schema request_rows request_facts put_request request_adds key value
    old new count (lives_in old.now is) h)

pub picks_request : (old new : State) (key : NameNumber) (rows : List Row) → IsStore old.now
    → Shown pick_request (key_params key) old new rows
    → option_map told (slice_get rows 0) ≡ get (contents_of old.now.trees).requests key
picks_request old new key rows is h =
    shows_one store_schema request_rows request_facts pick_request key_params told
    request_picks old new key rows (lives_in old.now is) h

pub adds_part : (old new : State) (key : NameNumber) (value : Part) (count : ℕ)
    → IsStore old.now
    → Executes add_part (part_rows.values key value) old new (Ok count)
    → Becomes new.now (with_part (contents_of old.now.trees) key value)
adds_part old new key value count is h =
    becomes part_rows (λ c m. record c { parts = m }) (λ _ _. refl) old.now new.now _
    (adds_row store_schema part_rows part_facts add_part part_adds key value
    old new count (lives_in old.now is) h)

-- one row was written over, or none
pub sets_part : (old new : State) (key : NameNumber) (value : Part) (count : ℕ) → IsStore old.now
    → Executes set_part (part_rows.values key value) old new (Ok count)
    → (count ≡ 0 → Becomes new.now (contents_of old.now.trees))
    × (0 < count → Becomes new.now (with_part (contents_of old.now.trees) key value))
sets_part old new key value count is h =
    let it = sets_row store_schema part_rows part_facts set_part part_sets key value
    old new count (lives_in old.now is) h in
    let so = becomes part_rows (λ c m. record c { parts = m }) (λ _ _. refl) old.now new.now in
    (λ none. so _ (it.0 none), λ some. so _ (it.1 some))
