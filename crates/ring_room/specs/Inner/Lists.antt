-- The lists that a room keeps of devices, and how few seats may be near any of them at the least.
use Rattle.std.specs.Prelude.{◌≡◌, ℕ, ◌<◌, ◌≤◌, Bool, true, false, All, List, length, take, Option}
use Rattle.std.specs.Prelude.{slice_index}
use Rattle.ring_share.specs.Crowd.{is_less}
use Rattle.ring_share.specs.Room.{has_open}
use Rattle.ring_share.specs.Codes.{AreCodes}
use Rattle.ring_share.specs.Tiers.{AreTier}
use Rattle.ring_share.specs.declared.tiers.Tier.{Tier}
use Rattle.ring_share.specs.declared.tiers.Tier.TheVariants.{Region, Zone, Server}
use Rattle.ring_room.specs.Load.{Load, IsLoad, has_room_in, crowd_in}
use Rattle.ring_room.specs.Search.{roomy_places}
use Rattle.ring_room.specs.Places.{id_at}

-- a crowd down to a tier, without the tiers below
abbrev pub cut : Tier → ℕ × ℕ × ℕ → ℕ × ℕ × ℕ
cut Region crowd = (crowd.0, 0, 0)
cut Zone crowd = (crowd.0, crowd.1, 0)
cut Server crowd = crowd

-- No open device is less crowded than this for a seat of a partition.
abbrev pub IsFloor : Load → List (Option ℕ) → ℕ × ℕ × ℕ → Type 0
IsFloor load row floor = (id : ℕ) → has_open id load.devices ≡ true → is_less (crowd_in load row id)
    floor ≡ false

-- These are places of devices that have room, and each device that has room stands at one of them.
pub record AreRoomy (load : Load) (places : List ℕ) : Type 0 where
  pub within : All (λ place. place < length load.devices) places
  pub roomy : All (λ place. has_room_in load (id_at load.devices place) ≡ true) places
  pub covered : (place : ℕ) → place < length load.devices →
      has_room_in load (id_at load.devices place) ≡ true → (index : ℕ) × (index < length places) ×
      (slice_index places index ≡ place)

-- The devices that have room, and no others, stand at the first places of a list as long as that of
-- the devices. Each region, zone and server that has an open device has one in a list. Numbers tell
-- in which region, in which zone and on which server each device is. Where it is said so no device is
-- marked to be removed, and each wants a seat.
pub record IsRoom (load : Load) (roomy : List ℕ) (count : ℕ)
    (regions zones servers in_region in_zone in_server : List ℕ) (all_present all_want : Bool) : Type 0
  where
    pub counted : IsLoad load
    pub long : length roomy ≡ length load.devices
    pub few : count ≤ length roomy
    pub listed : AreRoomy load (take count roomy)
    pub in_order : take count roomy ≡ roomy_places load
    pub regions_have : AreTier Region load.devices regions
    pub zones_have : AreTier Zone load.devices zones
    pub servers_have : AreTier Server load.devices servers
    pub regions_told : AreCodes Region load.devices in_region
    pub zones_told : AreCodes Zone load.devices in_zone
    pub servers_told : AreCodes Server load.devices in_server
    pub present : all_present ≡ true → All (λ device. device.removed ≡ false) load.devices
    pub want : all_want ≡ true → (place : ℕ) → place < length load.wanted →
        0 < slice_index load.wanted place
