-- Which device gets the next seat that is left over.
use Rattle.std.specs.Prelude.{◌≡◌, ◌≢◌, ◌==◌, ℕ, ◌<◌, ◌&&◌, Bool, true, false, List, slice_get}
use Rattle.std.specs.Prelude.{slice_index, Option, Some, None}
use Rattle.ring_model.specs.Ring.{RingRecord}
use Rattle.ring_words.specs.declared.device.Device.{Device}
use Rattle.ring_share.specs.Want.{is_open, whole_share, IsBefore}

-- whether a device that has so many seats is open and has no more than its whole seats
abbrev pub waits : RingRecord → ℕ → Option Device → Bool
waits ring seats None = false
waits ring seats (Some device) = is_open device && (seats == whole_share ring device)

-- whether the device at a place waits for one more seat
abbrev pub is_waiting : RingRecord → List ℕ → ℕ → Bool
is_waiting ring seats place = waits ring (slice_index seats place) (slice_get ring.devices place)

-- The device at the one place gets a seat before that at the other.
abbrev pub ComesBefore : RingRecord → ℕ → ℕ → Type 0
ComesBefore ring one other = (first second : Device) → slice_get ring.devices one ≡ Some first →
    slice_get ring.devices other ≡ Some second → IsBefore ring first second

-- This is the place of the first that waits among the first n devices, if one of them waits.
abbrev pub IsFirstWaiting : RingRecord → List ℕ → ℕ → Option ℕ → Type 0
IsFirstWaiting ring seats n None = (place : ℕ) → place < n → is_waiting ring seats place ≡ false
IsFirstWaiting ring seats n (Some one) = (one < n) × (is_waiting ring seats one ≡ true)
    × ((place : ℕ) → place < n → is_waiting ring seats place ≡ true → place ≢ one →
    ComesBefore ring one place)
