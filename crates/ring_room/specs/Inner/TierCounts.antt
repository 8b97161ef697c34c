-- How many of a partition's other seats are in each region and in each zone, by the numbers that tell
-- these.
use Rattle.std.specs.Prelude.{◌≡◌, ◌==◌, ℕ, ◌<◌, List, length, count_by, Option, slice_index}
use Rattle.ring_share.specs.Codes.{IsCode}
use Rattle.ring_share.specs.declared.tiers.Tier.TheVariants.{Region, Zone}
use Rattle.ring_room.specs.declared.tier_counts.TierCounts.{TierCounts}
use Rattle.ring_room.specs.Load.{Load, crowd_in}
use Rattle.ring_room.specs.Places.{id_at}

-- how many places have this number
abbrev pub places_with : List ℕ → List ℕ → ℕ → ℕ
places_with codes places code = count_by (λ place. code == slice_index codes place) places

-- These count the seats of a partition by regions and by zones: by a device's numbers so many are in
-- its region and in its zone.
pub record IsCounted (load : Load) (row : List (Option ℕ)) (counts : TierCounts) : Type 0 where
  pub regions : (place code : ℕ) → place < length load.devices →
      IsCode Region load.devices place code →
      slice_index counts.by_region code ≡ (crowd_in load row (id_at load.devices place)).0
  pub zones : (place code : ℕ) → place < length load.devices →
      IsCode Zone load.devices place code →
      slice_index counts.by_zone code ≡ (crowd_in load row (id_at load.devices place)).1
