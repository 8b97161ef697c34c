-- How many seats the devices of a ring want and have, while seats are put on them and taken off.
use Rattle.std.specs.Prelude.{◌≡◌, ℕ, ◌+◌, ◌-◌, ◌&&◌, ◌≤◌, Bool, true, false, nat_lt, if◌then◌else◌}
use Rattle.ring_words.specs.Limits.{greatest_long}
use Rattle.ring_words.specs.Limits.{most_devices}
use Rattle.std.specs.Prelude.{List, length, map, Option, Some, slice_index, slice_set}
use Rattle.std.specs.List.Sorted.{IsStrictlyIncreasing}
use Rattle.ring_words.specs.declared.device.Device.{Device}
use Rattle.ring_share.specs.Crowd.{crowd, is_less, is_outside, tiers_of}
use Rattle.ring_share.specs.Room.{has_open, place_of}

-- The devices of a ring and, in their order, how many seats each of them wants and has.
pub record Load : Type 0 where
  pub devices : List Device
  pub wanted : List ℕ
  pub counts : List ℕ

-- The devices stand by rising number, with a want and a count for each.
pub record IsLoad (load : Load) : Type 0 where
  pub rise : IsStrictlyIncreasing (map (λ device. device.id) load.devices)
  pub few : length load.devices ≤ most_devices
  pub wants : length load.wanted ≡ length load.devices
  pub counted : length load.counts ≡ length load.devices

-- how many seats the device of a number wants
abbrev pub want_in : Load → ℕ → ℕ
want_in load id = slice_index load.wanted (place_of id load.devices)

-- and how many it has
abbrev pub have_in : Load → ℕ → ℕ
have_in load id = slice_index load.counts (place_of id load.devices)

-- whether it is open, and has fewer than it wants
abbrev pub has_room_in : Load → ℕ → Bool
has_room_in load id = has_open id load.devices && nat_lt (have_in load id) (want_in load id)

-- with so many seats on it
abbrev pub with_count : Load → ℕ → ℕ → Load
with_count load id count = record load {
  counts = slice_set load.counts (place_of id load.devices)
      count;
}

-- with one seat more on it; a count of 4294967295 stays
abbrev pub load_put : Load → ℕ → Load
load_put load id = with_count load id (if nat_lt (have_in load id) greatest_long then
    have_in load id + 1 else have_in load id)

-- with one seat less on it; a count of 0 stays
abbrev pub load_take : Load → ℕ → Load
load_take load id = with_count load id (have_in load id - 1)

-- seats on these devices
abbrev pub seats_of : List ℕ → List (Option ℕ)
seats_of ids = map Some ids

-- whether the device of a number has room and is outside a partition with these seats
abbrev pub is_free_in : Load → List (Option ℕ) → ℕ → Bool
is_free_in load row id = has_room_in load id && is_outside row id

-- how crowded it is for one more seat of the partition
abbrev pub crowd_in : Load → List (Option ℕ) → ℕ → ℕ × ℕ × ℕ
crowd_in load row id = crowd (tiers_of load.devices) row id

-- The device of a number has room and is outside the partition, and no other such device is less
-- crowded for its next seat.
pub record IsLeast (load : Load) (row : List (Option ℕ)) (id : ℕ) : Type 0 where
  pub free : is_free_in load row id ≡ true
  pub least : (other : ℕ) → is_free_in load row other ≡ true → is_less (crowd_in load row other)
      (crowd_in load row id) ≡ false
