-- Devices by their places among those of a ring.
use Rattle.std.specs.Prelude.{ℕ, ◌+◌, ◌-◌, nat_lt, if◌then◌else◌, List, map}
use Rattle.std.specs.Prelude.{Option, Some, None, slice_get}
use Rattle.ring_words.specs.declared.device.Device.{Device}

-- the number of a device, 0 where there is none
abbrev pub number_of : Option Device → ℕ
number_of None = 0
number_of (Some device) = device.id

-- the number of the device at a place
abbrev pub id_at : List Device → ℕ → ℕ
id_at devices place = number_of (slice_get devices place)

-- seats on the devices at these places
abbrev pub seats_at : List Device → List ℕ → List (Option ℕ)
seats_at devices places = map (λ place. Some (id_at devices place)) places

-- the place so many steps after another, where the first place comes after the last
abbrev pub place_after : ℕ → ℕ → ℕ → ℕ
place_after count start step = if nat_lt (start + step) count then start + step else
    (start + step - count)
