-- How all seats of a ring are dealt, and what comes of it.
use Rattle.std.specs.Prelude.{◌≡◌, ◌==◌, ◌<◌, ◌≤◌, ℕ, ◌+◌, ◌-◌, ◌*◌, ◌^◌, List, [], ◌++◌, All, length, map}
use Rattle.std.specs.Prelude.{Some, count_by, if◌then◌else◌, min, slice_get, slice_index, sum, sum_by, true}
use Rattle.std.specs.List.{range_with_len}
use Rattle.std.specs.List.Sorted.{IsStrictlyIncreasing}
use Rattle.rand_pcg.specs.Lcg.{Lcg}
use Rattle.ring_words.specs.Limits.{greatest_power, most_devices, most_replicas}
use Rattle.ring_words.specs.declared.device.Device.{Device}
use Rattle.ring_model.specs.Ring.{has_device}
use Rattle.ring_model.specs.Valid.{AreDistinct}
use Rattle.ring_share.specs.Room.{place_of}
use Rattle.ring_share.specs.declared.tiers.Tier.{Tier}
use Rattle.ring_room.specs.Places.{id_at}
use Rattle.ring_room.specs.Steps.{after_steps}
use Rattle.ring_deal.specs.Draws.{shuffled}
use Rattle.ring_deal.specs.Hand.{Taking, dealt_round, taken_of}
use Rattle.ring_deal.specs.Order.{share_tier, tier_order}

-- ---- hands

-- the partitions are parted among at most 2 ^ 7 hands, each of as many
abbrev pub hand_power : ℕ
hand_power = 7

-- how many hands there are at a part power
abbrev pub hand_count : ℕ → ℕ
hand_count power = 2 ^ min power hand_power

-- and of how many partitions each is
abbrev pub hand_size : ℕ → ℕ
hand_size power = 2 ^ (power - hand_power)

-- the places of the devices of seats, by partition and then by replica, while hands are dealt; the
-- cards that are left of each device; and the draws that are to come
pub record Dealing : Type 0 where
  pub places : List ℕ
  pub left : List ℕ
  pub draws : Lcg

-- a hand that took so many cards is dealt
abbrev pub after_hand : ℕ → ℕ → Dealing → Taking → Lcg → Dealing
after_hand size replicas now taking draws = record {
  places = now.places ++ dealt_round taking.hand size replicas;
  left = taking.left;
  draws = draws;
}

-- the next of so many hands is dealt, its devices in an order that is drawn
abbrev pub deal_hand : List Device → ℕ → ℕ → ℕ → Dealing → Dealing
deal_hand devices size replicas hands now = after_hand size replicas now (taken_of hands
    (tier_order devices (shuffled (range_with_len 0 (length devices)) now.draws).0) now.left)
    (shuffled (range_with_len 0 (length devices)) now.draws).1

-- so are all, one after another
abbrev pub deal_at : List Device → ℕ → ℕ → ℕ → ℕ → Dealing → Dealing
deal_at devices size replicas hands n now = deal_hand devices size replicas (hands - n) now

-- the places of the devices of all seats of a ring of a part power, by partition and then by replica
abbrev pub dealt_places : List Device → List ℕ → ℕ → ℕ → Lcg → List ℕ
dealt_places devices wanted power replicas draws = (after_steps (deal_at devices (hand_size power)
    replicas (hand_count power)) (hand_count power) (record {
      places = [];
      left = wanted;
      draws = draws;
    })).places

-- the numbers of these devices
abbrev pub dealt_seats : List Device → List ℕ → ℕ → ℕ → Lcg → List ℕ
dealt_seats devices wanted power replicas draws = map (id_at devices)
    (dealt_places devices wanted power replicas draws)

-- ---- what comes of it

-- All seats of a ring of a part power can be dealt to devices that want so many: the wants come to
-- all seats, and no device wants two of a partition.
pub record CanDeal (devices : List Device) (wanted : List ℕ) (power replicas : ℕ) : Type 0 where
  pub within : (power ≤ greatest_power) × (replicas ≤ most_replicas)
  pub few : length devices ≤ most_devices
  pub rise : IsStrictlyIncreasing (map (λ device. device.id) devices)
  pub each : length wanted ≡ length devices
  pub all : sum wanted ≡ 2 ^ power * replicas
  pub once : All (λ want. want ≤ 2 ^ power) wanted

-- These are all seats of a ring, by partition and then by replica: each device has as many as it
-- wants, and those of a partition are on different ones.
pub record AreDealt (devices : List Device) (wanted : List ℕ) (power replicas : ℕ)
    (seats : List ℕ) : Type 0 where
  pub count : length seats ≡ 2 ^ power * replicas
  pub known : All (λ id. has_device id devices ≡ true) seats
  pub distinct : AreDistinct replicas seats
  pub as_wanted : (place : ℕ) (device : Device) → slice_get devices place ≡ Some device →
      count_by (λ seat. seat == device.id) seats ≡ slice_index wanted place

-- how many seats the devices that share a tier of a kind with the one at a place want together
abbrev pub tier_want : Tier → List Device → List ℕ → ℕ → ℕ
tier_want tier devices wanted place = sum_by (λ other. if share_tier tier devices place other then
    slice_index wanted other else 0) (range_with_len 0 (length devices))

-- how many seats of a partition are on devices that share a tier of a kind with the one at a place
abbrev pub tier_seats : Tier → List Device → ℕ → List ℕ → ℕ → ℕ → ℕ
tier_seats tier devices replicas seats partition place = count_by (λ replica. share_tier tier
    devices place (place_of (slice_index seats (partition * replicas + replica)) devices))
    (range_with_len 0 replicas)

-- No partition has more seats in a region, in a zone or on a server than the wants force on it:
-- where the devices there want no more than so many seats a partition, none has more there.
abbrev pub StandApart : List Device → List ℕ → ℕ → ℕ → List ℕ → Type 0
StandApart devices wanted power replicas seats = (tier : Tier) (place partition most : ℕ) →
    place < length devices → partition < 2 ^ power →
    tier_want tier devices wanted place ≤ 2 ^ power * most →
    tier_seats tier devices replicas seats partition place ≤ most
