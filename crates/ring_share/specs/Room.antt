-- How many seats a device has, and whether it has room for more.
use Rattle.std.specs.Prelude.{ℕ, ◌==◌, ◌&&◌, Bool, nat_lt, List, slice_index, count_by}
use Rattle.std.specs.List.{list_any, position_or_len}
use Rattle.ring_model.specs.Ring.{RingRecord}
use Rattle.ring_words.specs.declared.device.Device.{Device}
use Rattle.ring_share.specs.Want.{is_open}

-- how many seats are on the device of this number
abbrev pub have : RingRecord → ℕ → ℕ
have ring id = count_by (λ seat. seat == id) ring.seats

-- whether an open device has this number
abbrev pub has_open : ℕ → List Device → Bool
has_open id devices = list_any (λ device. (device.id == id) && is_open device) devices

-- at which place of the devices the one of this number stands, or past the last
abbrev pub place_of : ℕ → List Device → ℕ
place_of id devices = position_or_len (λ device. device.id == id) devices

-- what the device of this number wants, of the wants in the order of the devices
abbrev pub want_of : RingRecord → List ℕ → ℕ → ℕ
want_of ring wanted id = slice_index wanted (place_of id ring.devices)

-- whether the device of this number is open, and has fewer seats than it wants
abbrev pub has_room : RingRecord → List ℕ → ℕ → Bool
has_room ring wanted id = has_open id ring.devices && nat_lt (have ring id) (want_of ring wanted id)
