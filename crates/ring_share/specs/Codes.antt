-- Small numbers that tell tiers apart.
use Rattle.std.specs.Prelude.{◌≡◌, ℕ, ◌<◌, ◌≤◌, true, false, List, length, Some, slice_get}
use Rattle.std.specs.Prelude.{slice_index}
use Rattle.ring_words.specs.declared.device.Device.{Device}
use Rattle.ring_share.specs.declared.tiers.Tier.{Tier}
use Rattle.ring_share.specs.Tiers.{shares}

-- This is the place of the first device that shares a tier of a kind with the device at a place.
pub record IsCode (tier : Tier) (devices : List Device) (place code : ℕ) : Type 0 where
  pub within : code ≤ place
  pub shared : (first device : Device) → slice_get devices code ≡ Some first →
      slice_get devices place ≡ Some device → shares tier first device ≡ true
  pub none_before : (other : ℕ) (before device : Device) → other < code →
      slice_get devices other ≡ Some before → slice_get devices place ≡ Some device →
      shares tier before device ≡ false

-- By place these tell for each device who shares its tier of a kind: who has the same number.
abbrev pub AreCodes : Tier → List Device → List ℕ → Type 0
AreCodes tier devices codes = (place : ℕ) → place < length devices → IsCode tier devices place
    (slice_index codes place)
