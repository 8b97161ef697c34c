-- A ring: its devices, and which of them holds each replica of each partition.
use Rattle.std.specs.Prelude.{ℕ, ◌+◌, ◌*◌, ◌^◌, ◌==◌, ◌&&◌, Bool, not, nat_lt, List, [], ◌∷◌, ◌++◌}
use Rattle.ring_words.specs.Limits.{greatest_long}
use Rattle.std.specs.Prelude.{length, map, replicate, slice_get, slice_index_or, find, Option, None}
use Rattle.std.specs.Prelude.{false, true, if◌then◌else◌}
use Rattle.std.specs.List.{list_any}
use Rattle.std.specs.Option.{option_map}
use Rattle.ring_words.specs.declared.command.DeviceAct.{DeviceAct}
use Rattle.ring_words.specs.declared.command.DeviceAct.TheVariants.{SetWeight, Remove, Keep}
use Rattle.ring_words.specs.declared.device.Row.{Row}
use Rattle.ring_words.specs.declared.device.Device.{Device}

-- A ring: which devices it has, and which of them holds each replica of each partition.
pub record RingRecord : Type 0 where
  -- there are 2 ^ power partitions
  pub power : ℕ
  -- each with so many seats
  pub replicas : ℕ
  -- for so many hours a moved partition stays where it is
  pub min_hours : ℕ
  -- the number of the next device
  pub next_id : ℕ
  pub version : ℕ
  -- by rising number
  pub devices : List Device
  -- which device is on each seat, by partition and then by replica; nothing where the seats are
  -- empty
  pub seats : List ℕ
  -- for each partition the hour of its last move, or never
  pub moved : List (Option ℕ)
  -- version and text, by rising version
  pub published : List (ℕ × List ℕ)

-- how many partitions a ring has
abbrev pub partition_count : RingRecord → ℕ
partition_count ring = 2 ^ ring.power

-- the device on the seat of a replica of a partition, if the seat isn't empty
abbrev pub seat : RingRecord → ℕ → ℕ → Option ℕ
seat ring partition replica = slice_get ring.seats (partition * ring.replicas + replica)

-- the hour at which a partition was moved last
abbrev pub moved_at : RingRecord → ℕ → Option ℕ
moved_at ring partition = slice_index_or ring.moved partition None

-- whether the seats are taken; else they are all empty
abbrev pub is_assigned : RingRecord → Bool
is_assigned ring = nat_lt 0 (length ring.seats)

-- the text that is published under a version
abbrev pub published_at : RingRecord → ℕ → Option (List ℕ)
published_at ring version = option_map (λ e. e.1) (find (λ e. e.0 == version) ring.published)

-- whether a device has this number
abbrev pub has_device : ℕ → List Device → Bool
has_device id devices = list_any (λ device. device.id == id) devices

-- whether a device that isn't marked to be removed has this number
abbrev pub has_present : ℕ → List Device → Bool
has_present id devices = list_any (λ device. (device.id == id) && not device.removed) devices

-- the version after a change: one more, and the greatest stays
abbrev pub risen : ℕ → ℕ
risen version = if version == greatest_long then greatest_long else version + 1

-- a new ring: no device, no seat taken, never moved
abbrev pub new_ring : ℕ → ℕ → ℕ → RingRecord
new_ring power replicas min_hours = record {
  power = power;
  replicas = replicas;
  min_hours = min_hours;
  next_id = 0;
  version = 0;
  devices = [];
  seats = [];
  moved = replicate (2 ^ power) None;
  published = [];
}

-- the ring and a device that isn't marked under the next number, at the version that it had
abbrev pub added : RingRecord → Row → RingRecord
added ring row = record ring {
  next_id = ring.next_id + 1;
  devices = ring.devices ++ record { id = ring.next_id; row = row; removed = false } ∷ [];
}

-- the ring at the version after a change
abbrev pub changed : RingRecord → RingRecord
changed ring = record ring { version = risen ring.version }

-- the ring with one more device
abbrev pub with_device : RingRecord → Row → RingRecord
with_device ring row = changed (added ring row)

-- the device after this was done to it
abbrev pub altered : DeviceAct → Device → Device
-- it has this weight
altered (SetWeight weight) device = record device { row = record device.row { weight = weight } }
-- it is marked to be removed
altered Remove device = record device { removed = true }
-- it is marked no more
altered Keep device = record device { removed = false }

-- the device, after this was done to it if it has this number
abbrev pub altered_at : ℕ → DeviceAct → Device → Device
altered_at id what device = if device.id == id then altered what device else device

-- the ring after this was done to the device of this number
abbrev pub with_altered : RingRecord → ℕ → DeviceAct → RingRecord
with_altered ring id what = changed (record ring { devices = map (altered_at id what) ring.devices })

-- the ring where a moved partition stays for so many hours
abbrev pub with_min_hours : RingRecord → ℕ → RingRecord
with_min_hours ring hours = changed (record ring { min_hours = hours })

-- the ring where no partition was ever moved
abbrev pub with_hours_passed : RingRecord → RingRecord
with_hours_passed ring = changed (record ring { moved = replicate (partition_count ring) None })
