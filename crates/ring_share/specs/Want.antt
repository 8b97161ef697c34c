-- How many seats each device of a ring wants: its share by weight, in whole seats.
use Rattle.std.specs.Prelude.{◌≡◌, ℕ, ◌+◌, ◌*◌, ◌/◌, ◌%◌, ◌<◌, ◌≤◌, ◌&&◌, Bool, not, true, false}
use Rattle.std.specs.Prelude.{nat_lt, if◌then◌else◌, List, length, sum, sum_by, slice_get}
use Rattle.std.specs.Prelude.{slice_index, Some}
use Rattle.std.specs.List.{list_any}
use Rattle.ring_model.specs.Ring.{RingRecord, partition_count}
use Rattle.ring_words.specs.declared.device.Device.{Device}

-- whether a device is open, so that seats may go to it: it isn't marked to be removed, and it
-- weighs something
abbrev pub is_open : Device → Bool
is_open device = not device.removed && nat_lt 0 device.row.weight

-- the weight of an open device; any other counts for nothing
abbrev pub open_weight : Device → ℕ
open_weight device = if is_open device then device.row.weight else 0

-- what the open devices weigh together
abbrev pub total_weight : List Device → ℕ
total_weight devices = sum_by open_weight devices

-- how many seats a ring has, one for each replica of each partition
abbrev pub seat_count : RingRecord → ℕ
seat_count ring = partition_count ring * ring.replicas

-- the whole seats of a device's share
abbrev pub whole_share : RingRecord → Device → ℕ
whole_share ring device = seat_count ring * device.row.weight / total_weight ring.devices

-- what its share is beyond whole seats, a seat being as many parts as all open devices weigh
abbrev pub share_rest : RingRecord → Device → ℕ
share_rest ring device = seat_count ring * device.row.weight % total_weight ring.devices

-- The first device gets one more seat before the second: it has more beyond whole seats, or as much
-- and a lower number.
pub record IsBefore (ring : RingRecord) (first second : Device) : Type 0 where
  pub rest : share_rest ring second ≤ share_rest ring first
  pub tie : share_rest ring second ≡ share_rest ring first → first.id < second.id

-- Each open device of a ring has the whole seats of its share or one more, who has one more comes
-- before who doesn't, and no other device has any: the seats stand in the order of the devices.
pub record AreShares (ring : RingRecord) (seats : List ℕ) : Type 0 where
  pub count : length seats ≡ length ring.devices
  pub shares : (place : ℕ) (device : Device) → slice_get ring.devices place ≡ Some device →
      is_open device ≡ true →
      (whole_share ring device ≤ slice_index seats place) ×
      (slice_index seats place ≤ whole_share ring device + 1)
  pub order : (one other : ℕ) (first second : Device) → slice_get ring.devices one ≡ Some first →
      slice_get ring.devices other ≡ Some second →
      is_open first ≡ true → is_open second ≡ true → slice_index seats one ≡ whole_share ring first
      + 1 → slice_index seats other ≡ whole_share ring second →
      IsBefore ring first second
  pub closed : (place : ℕ) (device : Device) → slice_get ring.devices place ≡ Some device →
      is_open device ≡ false → slice_index seats place ≡ 0

-- These are the seats that the devices want: such shares that, if a device is open, add up to all
-- seats of the ring.
pub record AreWanted (ring : RingRecord) (wanted : List ℕ) : Type 0 where
  pub shares : AreShares ring wanted
  pub total : list_any is_open ring.devices ≡ true → sum wanted ≡ seat_count ring
