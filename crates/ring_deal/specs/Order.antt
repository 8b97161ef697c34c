-- In which order the cards of devices are laid in a row: region by region, in these zone by zone,
-- in these server by server, each in an order that ranks give.
use Rattle.std.specs.Prelude.{ℕ, ◌+◌, ◌*◌, ◌%◌, Bool, nat_le, if◌then◌else◌, List, [], ◌∷◌, length, map}
use Rattle.std.specs.Prelude.{slice_get, slice_index}
use Rattle.std.specs.List.{range_with_len}
use Rattle.ring_words.specs.Limits.{most_devices}
use Rattle.ring_words.specs.declared.device.Device.{Device}
use Rattle.ring_share.specs.Crowd.{pass_both}
use Rattle.ring_share.specs.Tiers.{shares}
use Rattle.ring_share.specs.declared.tiers.Tier.{Tier}
use Rattle.ring_share.specs.declared.tiers.Tier.TheVariants.{Region, Zone, Server}
use Rattle.ring_room.specs.Steps.{first_below, or_zero}

-- whether the devices at two places share a tier of a kind
abbrev pub share_tier : Tier → List Device → ℕ → ℕ → Bool
share_tier tier devices place other = pass_both (shares tier) (slice_get devices other)
    (slice_get devices place)

-- the place of the first device that shares a tier of a kind with the one at a place
abbrev pub first_in_tier : Tier → List Device → ℕ → ℕ
first_in_tier tier devices place = or_zero (first_below (share_tier tier devices place) (place + 1))

-- the rank of the tier of a device: that of its first device
abbrev pub tier_rank : Tier → List Device → List ℕ → ℕ → ℕ
tier_rank tier devices ranks place = slice_index ranks (first_in_tier tier devices place)

-- two numbers as one, of which the second is below the count of devices that there may be
abbrev pub behind : ℕ → ℕ → ℕ
behind high low = high * most_devices + low

-- by what devices are ordered: the rank of the region, then that of the zone, then that of the
-- server, then its own; its place comes last
abbrev pub order_key : List Device → List ℕ → ℕ → ℕ
order_key devices ranks place = behind (behind (behind (behind (tier_rank Region devices ranks place)
    (tier_rank Zone devices ranks place)) (tier_rank Server devices ranks place))
    (slice_index ranks place)) place

-- numbers that ascend, with one more
unfoldable pub put_among : ℕ → List ℕ → List ℕ
put_among n [] = n ∷ []
put_among n (m ∷ rest) = if nat_le n m then n ∷ m ∷ rest else m ∷ put_among n rest

-- numbers, the least first
unfoldable pub ascending : List ℕ → List ℕ
ascending [] = []
ascending (n ∷ rest) = put_among n (ascending rest)

-- the places of devices, tier by tier, by the ranks of their places
abbrev pub tier_order : List Device → List ℕ → List ℕ
tier_order devices ranks = map (λ key. key % most_devices) (ascending
    (map (order_key devices ranks) (range_with_len 0 (length devices))))
