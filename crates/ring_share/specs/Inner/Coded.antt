-- Seats counted by the numbers that tell tiers apart.
use Rattle.std.specs.Prelude.{◌≡◌, ℕ, ◌+◌, ◌<◌, ◌==◌, if◌then◌else◌, List, length, count_by}
use Rattle.std.specs.Prelude.{slice_index}
use Rattle.ring_words.specs.Limits.{most_devices}
use Rattle.ring_words.specs.declared.device.Device.{Device}
use Rattle.ring_share.specs.declared.better.ByTier.{ByTier}
use Rattle.ring_share.specs.declared.tiers.Tier.TheVariants.{Region, Zone, Server}
use Rattle.ring_share.specs.Codes.{AreCodes}
use Rattle.ring_share.specs.Near.{StandsAt}

-- how many places have this number
abbrev pub coded : List ℕ → List ℕ → ℕ → ℕ
coded codes places code = count_by (λ place. code == slice_index codes place) places

-- These are the codes of devices for each kind of tier.
pub record AreAllCodes (devices : List Device) (codes : ByTier) : Type 0 where
  pub region : AreCodes Region devices codes.region
  pub zone : AreCodes Zone devices codes.zone
  pub server : AreCodes Server devices codes.server

-- The device of each of these numbers stands at the place beside it.
pub record AreStanding (devices : List Device) (ids places : List ℕ) : Type 0 where
  pub count : length places ≡ length ids
  pub stand : (replica : ℕ) → replica < length ids →
      StandsAt devices (slice_index ids replica) (slice_index places replica)

-- These are, by code, how many places but the one of a replica have it.
abbrev pub AreOthers : List ℕ → List ℕ → ℕ → List ℕ → Type 0
AreOthers codes places replica counts = (code : ℕ) → code < most_devices →
    slice_index counts code + (if code == slice_index codes (slice_index places replica) then 1 else
    0) ≡ coded codes places code

-- These are, by code, how many places have it.
abbrev pub AreCounts : List ℕ → List ℕ → List ℕ → Type 0
AreCounts codes places counts = (code : ℕ) → code < most_devices →
    slice_index counts code ≡ coded codes places code

-- So it is for each kind of tier.
pub record AreAllCounts (codes : ByTier) (places : List ℕ) (counts : ByTier) : Type 0 where
  pub region : AreCounts codes.region places counts.region
  pub zone : AreCounts codes.zone places counts.zone
  pub server : AreCounts codes.server places counts.server

-- So it is for each kind of tier, without the seat of a replica.
pub record AreAllOthers (codes : ByTier) (places : List ℕ) (replica : ℕ) (counts : ByTier) : Type 0
  where
    pub region : AreOthers codes.region places replica counts.region
    pub zone : AreOthers codes.zone places replica counts.zone
    pub server : AreOthers codes.server places replica counts.server

-- how crowded the device at a place is, by its codes and how many seats have each
abbrev pub crowd_at : ByTier → ByTier → ℕ → ℕ × ℕ × ℕ
crowd_at codes counts place = (
  slice_index counts.region (slice_index codes.region place),
  slice_index counts.zone (slice_index codes.zone place),
  slice_index counts.server (slice_index codes.server place),
)
