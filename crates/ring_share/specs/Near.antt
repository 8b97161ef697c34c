-- The places of devices.
use Rattle.std.specs.Prelude.{◌≡◌, ℕ, Bool, false}
use Rattle.std.specs.Prelude.{List, slice_get}
use Rattle.std.specs.Prelude.{Option, Some, None}
use Rattle.ring_words.specs.declared.device.Device.{Device}
use Rattle.ring_share.specs.Want.{is_open}

-- whether the device at a place is open
abbrev pub is_open_at : List Device → ℕ → Bool
is_open_at devices place = passes (slice_get devices place)
  where
    passes : Option Device → Bool
    passes None = false
    passes (Some device) = is_open device

-- The device of this number stands at a place.
pub record StandsAt (devices : List Device) (id place : ℕ) : Type 0 where
  pub device : Device
  pub at : slice_get devices place ≡ Some device
  pub named : device.id ≡ id
