-- A search among some places of the devices of a ring, as far as it has come.
use Rattle.std.specs.Prelude.{◌≡◌, not, Bool, ℕ, ◌<◌, false, true}
use Rattle.std.specs.Prelude.{All, List, count_by, length, Option, Some, None, slice_index}
use Rattle.ring_words.specs.declared.device.Device.{Device}
use Rattle.ring_share.specs.Crowd.{is_less, is_on}
use Rattle.ring_room.specs.Load.{Load, is_free_in, crowd_in}
use Rattle.ring_room.specs.Places.{id_at, place_after, seats_at}
use Rattle.ring_room.specs.Search.{is_open_outside}

-- These are the places of the devices of a partition's seats, in any order: as many are of devices
-- that pass a test as seats are on such.
pub record ArePlacesOf (devices : List Device) (row : List (Option ℕ)) (places : List ℕ) : Type 0
  where
    pub within : All (λ place. place < length devices) places
    pub alike : (test : ℕ → Bool) → count_by (is_on test) (seats_at devices places) ≡
        count_by (is_on test) row

-- the number of the device so many steps after one of these places
abbrev pub id_after : Load → List ℕ → ℕ → ℕ → ℕ
id_after load places start step =
    id_at load.devices (slice_index places (place_after (length places) start step))

-- Of the devices of the first steps after a place none that is free is less crowded for a seat than
-- the one at the best place.
abbrev pub AreNoLess : List ℕ → ℕ → ℕ → Load → List (Option ℕ) → ℕ → Type 0
AreNoLess places start steps load row best = (step : ℕ) → step < steps →
    is_free_in load row (id_after load places start step) ≡ true →
    is_less (crowd_in load row (id_after load places start step))
    (crowd_in load row (id_at load.devices best)) ≡ false

-- The device at the best place is free for a seat, and least crowded among the devices of the first
-- steps after a place.
pub record IsBestOf (places : List ℕ) (start steps : ℕ) (load : Load) (row : List (Option ℕ))
    (best : ℕ) : Type 0 where
  pub within : best < length load.devices
  pub free : is_free_in load row (id_at load.devices best) ≡ true
  pub least : AreNoLess places start steps load row best

-- So is this, with how crowded it is, or none of them is free.
abbrev pub IsBestSoFar : List ℕ → ℕ → ℕ → Load → List (Option ℕ) → Option (ℕ × (ℕ × ℕ × ℕ)) → Type 0
IsBestSoFar places start steps load row None = (step : ℕ) → step < steps →
    is_free_in load row (id_after load places start step) ≡ false
IsBestSoFar places start steps load row (Some best) = IsBestOf places start steps load row best.0 ×
    (best.1 ≡ crowd_in load row (id_at load.devices best.0))

-- whether that is no more crowded than this
abbrev pub is_within : Option (ℕ × (ℕ × ℕ × ℕ)) → ℕ × ℕ × ℕ → Bool
is_within None floor = false
is_within (Some best) floor = not (is_less floor best.1)

-- The device at this place is open and outside a partition.
pub record IsOpenPlace (devices : List Device) (row : List (Option ℕ)) (place : ℕ) : Type 0 where
  pub within : place < length devices
  pub here : is_open_outside devices row place ≡ true
