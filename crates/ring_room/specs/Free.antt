-- Whether a partition finds a place outside with room, and a less crowded one for one of its seats.
use Rattle.std.specs.Prelude.{◌≡◌, ℕ, ◌&&◌, Bool, false, List, Option, Some, slice_get}
use Rattle.std.specs.List.{list_any}
use Rattle.ring_share.specs.Crowd.{is_less, others}
use Rattle.ring_room.specs.Load.{Load, crowd_in, is_free_in}

-- whether some device outside a partition has room
abbrev pub has_free_in : Load → List (Option ℕ) → Bool
has_free_in load row = list_any (λ device. is_free_in load row device.id) load.devices

-- whether some such device is less crowded than the device of a number, where `rest` is the
-- partition without the seat
abbrev pub has_less_in : Load → List (Option ℕ) → List (Option ℕ) → ℕ → Bool
has_less_in load row rest id = list_any (λ device. is_free_in load row device.id &&
    is_less (crowd_in load rest device.id) (crowd_in load rest id)) load.devices

-- whether some device outside a partition with room is less crowded than the device of a number for
-- the seat of a replica
abbrev pub is_crowded_in : Load → List (Option ℕ) → ℕ → ℕ → Bool
is_crowded_in load row replica id = has_less_in load row (others row replica) id

-- No device outside with room is less crowded for any seat.
abbrev pub AreUncrowded : Load → List (Option ℕ) → Type 0
AreUncrowded was row = (replica id : ℕ) → slice_get row replica ≡ Some (Some id) →
    is_crowded_in was row replica id ≡ false
