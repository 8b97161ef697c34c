-- The tiers in which devices stand.
use Rattle.std.specs.Prelude.{◌≡◌, ℕ, ◌<◌, Bool, true, All, List, length, Some, slice_get}
use Rattle.std.specs.List.{list_any}
use Rattle.ring_words.specs.declared.device.Device.{Device}
use Rattle.ring_share.specs.declared.tiers.Tier.{Tier}
use Rattle.ring_share.specs.declared.tiers.Tier.TheVariants.{Region, Zone, Server}
use Rattle.ring_share.specs.Crowd.{in_region, in_zone, on_server, pass_both}
use Rattle.ring_share.specs.Near.{is_open_at}
use Rattle.ring_share.specs.Want.{is_open}

-- whether two devices share a tier of a kind
abbrev pub shares : Tier → Device → Device → Bool
shares Region one other = in_region one other
shares Zone one other = in_zone one other
shares Server one other = on_server one other

-- These are places of open devices, and each tier of an open device has one of them.
pub record AreTier (tier : Tier) (devices : List Device) (places : List ℕ) : Type 0 where
  pub within : All (λ place. place < length devices) places
  pub opens : All (λ place. is_open_at devices place ≡ true) places
  pub covered : All (λ (device : Device). is_open device ≡ true →
      list_any (λ place. pass_both (shares tier) (slice_get devices place) (Some device)) places ≡
      true) devices
