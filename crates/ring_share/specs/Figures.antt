-- How far a ring is from its devices' shares, and from standing apart: both in hundredths of a
-- percent.
use Rattle.std.specs.Prelude.{ℕ, ◌+◌, ◌-◌, ◌*◌, ◌/◌, ◌&&◌, Bool, false, nat_lt, min, max}
use Rattle.std.specs.Prelude.{if◌then◌else◌, List, length, fold, map, count_by, slice_index_or}
use Rattle.std.specs.Prelude.{Option, Some, None}
use Rattle.std.specs.List.{list_any, range_with_len}
use Rattle.ring_model.specs.Ring.{RingRecord, partition_count}
use Rattle.ring_words.specs.declared.device.Device.{Device}
use Rattle.ring_share.specs.Want.{is_open, seat_count, total_weight}
use Rattle.ring_share.specs.Room.{have}
use Rattle.ring_share.specs.Crowd.{tiers_of, rows_of, others, is_outside, crowd, is_less}

-- by how much two numbers differ
abbrev pub distance : ℕ → ℕ → ℕ
distance a b = (a - b) + (b - a)

-- The greatest balance.
abbrev pub greatest_balance : ℕ
greatest_balance = 99999

-- how far the seats of a device are from its share, of that share; any seat is too much for a
-- device that isn't open
abbrev pub device_balance : RingRecord → Device → ℕ
device_balance ring device =
    let seats = have ring device.id in
    let share = seat_count ring * device.row.weight in
    if is_open device then min greatest_balance
    (10000 * distance (seats * total_weight ring.devices) share / share)
    else (if nat_lt 0 seats then greatest_balance else 0)

-- the greatest balance of a device, 0 without devices
abbrev pub ring_balance : RingRecord → ℕ
ring_balance ring = fold max 0 (map (device_balance ring) ring.devices)

-- whether an open device outside the partition, with room or without, is less crowded for a seat
-- than this one
abbrev pub has_better : List Device → List (Option ℕ) → ℕ → ℕ → Bool
has_better devices row replica id = list_any
    (λ device. is_open device && is_outside row device.id &&
    is_less (crowd (tiers_of devices) (others row replica) device.id) (crowd (tiers_of devices)
    (others row replica) id))
    devices

-- whether that is so for a seat's own device; nothing is better than an empty seat
abbrev pub is_crowded : List Device → List (Option ℕ) → ℕ → Option ℕ → Bool
is_crowded devices row replica None = false
is_crowded devices row replica (Some id) = has_better devices row replica id

-- whether a partition has such a seat
abbrev pub has_crowded : List Device → List (Option ℕ) → Bool
has_crowded devices row = list_any (λ replica. is_crowded devices row replica
    (slice_index_or row replica None)) (range_with_len 0 (length row))

-- which part of the partitions has one
abbrev pub ring_dispersion : RingRecord → ℕ
ring_dispersion ring = 10000 * count_by (has_crowded ring.devices) (rows_of ring) / partition_count
    ring
