-- When a ring's record is that of a ring.
use Rattle.std.specs.Prelude.{◌≡◌, ℕ, ◌+◌, ◌*◌, ◌<◌, ◌≤◌, List, length, map, slice_get, Option, Some}
use Rattle.ring_words.specs.Limits.{greatest_long, greatest_power, greatest_short, most_devices}
use Rattle.ring_words.specs.Limits.{long_count, most_ids, most_replicas, most_versions}
use Rattle.std.specs.Prelude.{All, AllPairs, IfSome, true, false}
use Rattle.std.specs.List.Sorted.{IsStrictlyIncreasing}
use Rattle.ring_model.specs.Ring.{RingRecord, partition_count, has_device}
use Rattle.ring_words.specs.Rows.{IsProperRow, same_place}
use Rattle.ring_words.specs.declared.device.Device.{Device}

-- No two devices have the same address, port and name.
abbrev pub AreApart : List Device → Type 0
AreApart devices = AllPairs (λ a b. same_place a.row b.row ≡ false) devices

-- With so many seats a partition, the seats of each partition are on different devices.
abbrev pub AreDistinct : ℕ → List ℕ → Type 0
AreDistinct replicas seats = (partition one other id : ℕ) → one < replicas → other < replicas →
    slice_get seats (partition * replicas + one) ≡ Some id →
    slice_get seats (partition * replicas + other) ≡ Some id → one ≡ other

-- These are devices of a ring that gives the number next_id next.
pub record AreDevices (next_id : ℕ) (devices : List Device) : Type 0 where
  pub count : length devices ≤ most_devices
  -- their numbers rise and are below the next one
  pub below : All (λ device. device.id < next_id) devices
  pub rise : IsStrictlyIncreasing (map (λ device. device.id) devices)
  pub apart : AreApart devices
  pub proper : All (λ device. IsProperRow device.row) devices

-- These are the seats of so many partitions and replicas on these devices.
pub record AreSeats (partitions replicas : ℕ) (devices : List Device) (seats : List ℕ) : Type 0
  where
    -- either all are empty or none is
    pub whole : 0 < length seats → length seats ≡ partitions * replicas
    pub known : All (λ id. has_device id devices ≡ true) seats
    pub distinct : AreDistinct replicas seats

-- A text under a version of 32 bits.
abbrev pub IsVersioned : ℕ × List ℕ → Type 0
IsVersioned text = text.0 < long_count

-- These are texts under rising versions.
pub record ArePublished (published : List (ℕ × List ℕ)) : Type 0 where
  pub count : length published ≤ most_versions
  pub rise : IsStrictlyIncreasing (map (λ entry. entry.0) published)
  pub versions : All IsVersioned published

-- An hour of 32 bits, or never.
abbrev pub IsHour : Option ℕ → Type 0
IsHour hour = IfSome hour (λ h. h < long_count)

-- The ring is valid: its numbers are within their limits, its devices are such as there are and
-- apart, and its seats are on devices of its own.
pub record IsValid (ring : RingRecord) : Type 0 where
  pub power : (1 ≤ ring.power) × (ring.power ≤ greatest_power)
  pub replicas : (1 ≤ ring.replicas) × (ring.replicas ≤ most_replicas)
  pub min_hours : ring.min_hours ≤ greatest_short
  pub next_id : ring.next_id ≤ most_ids
  pub version : ring.version ≤ greatest_long
  pub devices : AreDevices ring.next_id ring.devices
  pub seats : AreSeats (partition_count ring) ring.replicas ring.devices ring.seats
  pub moved : length ring.moved ≡ partition_count ring
  pub hours : All IsHour ring.moved
  pub published : ArePublished ring.published
