-- Where devices stand, and how crowded a device is for a seat of a partition. A partition is the
-- list of its seats by replica, each the number of the device that it is on, or `None` if it is
-- empty.
use Rattle.std.specs.Prelude.{ℕ, ◌==◌, ◌&&◌, ◌||◌, Bool, false, nat_lt, List, map, find, count_by}
use Rattle.std.specs.Prelude.{slice_set, Option, Some, None}
use Rattle.std.specs.List.{range_with_len}
use Rattle.ring_model.specs.Ring.{RingRecord, partition_count, seat}
use Rattle.ring_words.specs.declared.device.Device.{Device}

-- whether two devices stand in one region
abbrev pub in_region : Device → Device → Bool
in_region a b = a.row.region == b.row.region

-- whether they stand in one zone: a zone's number counts within its region
abbrev pub in_zone : Device → Device → Bool
in_zone a b = in_region a b && (a.row.zone == b.row.zone)

-- whether they stand on one server: its address counts within its zone, and the port is no part of
-- it
abbrev pub on_server : Device → Device → Bool
on_server a b = in_zone a b && (a.row.address == b.row.address)

-- the device of a number
abbrev pub device_by_id : ℕ → List Device → Option Device
device_by_id id devices = find (λ device. device.id == id) devices

-- whether two devices are there and pass a test
abbrev pub pass_both : (Device → Device → Bool) → Option Device → Option Device → Bool
pass_both test (Some a) (Some b) = test a b
pass_both test (Some a) None = false
pass_both test None other = false

-- Which devices, by their numbers, stand in one region, in one zone, on one server.
pub record Tiers : Type 0 where
  pub region : ℕ → ℕ → Bool
  pub zone : ℕ → ℕ → Bool
  pub server : ℕ → ℕ → Bool

-- which devices of a ring share a region, a zone or a server, by their numbers
abbrev pub tiers_of : List Device → Tiers
tiers_of devices = record {
  region = λ a b. pass_both in_region (device_by_id a devices) (device_by_id b devices);
  zone = λ a b. pass_both in_zone (device_by_id a devices) (device_by_id b devices);
  server = λ a b. pass_both on_server (device_by_id a devices) (device_by_id b devices);
}

-- the seats of a partition
abbrev pub row_of : RingRecord → ℕ → List (Option ℕ)
row_of ring partition = map (λ replica. seat ring partition replica)
    (range_with_len 0 ring.replicas)

-- the seats of all partitions
abbrev pub rows_of : RingRecord → List (List (Option ℕ))
rows_of ring = map (λ partition. row_of ring partition) (range_with_len 0 (partition_count ring))

-- whether a seat is on a device that passes a test
abbrev pub is_on : (ℕ → Bool) → Option ℕ → Bool
is_on test None = false
is_on test (Some id) = test id

-- how many seats of a partition are on the device of this number
abbrev pub seats_on : ℕ → List (Option ℕ) → ℕ
seats_on id row = count_by (is_on (λ other. other == id)) row

-- whether the device of this number is outside a partition: it has no seat of it
abbrev pub is_outside : List (Option ℕ) → ℕ → Bool
is_outside row id = seats_on id row == 0

-- a partition as one of its seats sees it: that seat itself doesn't count
abbrev pub others : List (Option ℕ) → ℕ → List (Option ℕ)
others row replica = slice_set row replica None

-- how many seats are in the region of the device of this number, in its zone, and on its server
abbrev pub crowd : Tiers → List (Option ℕ) → ℕ → ℕ × ℕ × ℕ
crowd tiers row id = (
  count_by (is_on (tiers.region id)) row,
  count_by (is_on (tiers.zone id)) row,
  count_by (is_on (tiers.server id)) row,
)

-- how crowded the device of a number is for a seat of a ring: how many other seats of the partition
-- are near it
abbrev pub crowd_for : RingRecord → ℕ → ℕ → ℕ → ℕ × ℕ × ℕ
crowd_for ring partition replica id = crowd (tiers_of ring.devices) (others (row_of ring partition)
    replica) id

-- whether the one is less crowded than the other: compared by region, then by zone, then by server
abbrev pub is_less : ℕ × ℕ × ℕ → ℕ × ℕ × ℕ → Bool
is_less a b = nat_lt a.0 b.0 ||
    ((a.0 == b.0) && (nat_lt a.1 b.1 || ((a.1 == b.1) && nat_lt a.2 b.2)))
