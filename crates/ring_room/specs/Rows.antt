-- The seats of one partition by replica while seats are moved: the device that each is on, or `None`.
use Rattle.std.specs.Prelude.{◌≡◌, ℕ, Bool, true, false, List, Option, Some, None, slice_get}
use Rattle.std.specs.List.{filter_map}
use Rattle.ring_model.specs.Ring.{has_device}
use Rattle.ring_words.specs.declared.device.Device.{Device}

-- the devices of a row's seats by replica; an empty seat has none
abbrev pub devices_on : List (Option ℕ) → List ℕ
devices_on row = filter_map (λ seat. seat) row

-- whether nothing is on a seat
abbrev pub is_empty : Option ℕ → Bool
is_empty None = true
is_empty (Some id) = false

-- Each seat is empty or on a device of these.
abbrev pub AreKnown : List Device → List (Option ℕ) → Type 0
AreKnown devices row = (replica id : ℕ) → slice_get row replica ≡ Some (Some id) →
    has_device id devices ≡ true
