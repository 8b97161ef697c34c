-- Which rows stand for rings.
use Rattle.std.specs.Prelude.{ℕ, ◌*◌, ◌/◌, ◌%◌, ℤ, pos, negsuc, List, [], ◌∷◌, map, take, drop}
use Rattle.std.specs.Prelude.{Bool, cond, Option, Some, None}
use Rattle.std.specs.List.{flat_map, enumerate_from}
use Rattle.ring_words.specs.Texts.{address_text}
use Rattle.ring_words.specs.declared.device.Device.{Device}
use Rattle.ring_model.specs.Ring.{RingRecord}
use Rattle.store_model.specs.Entries as rows

-- Rings by rising name.
abbrev pub NamedRings : Type 0
NamedRings = List (List ℕ × RingRecord)

-- ---- the row of a ring

abbrev pub ring_entry : List ℕ × RingRecord → List ℕ × rows.Ring
ring_entry e = (
  e.0,
  record {
    power = pos e.1.power;
    replicas = pos e.1.replicas;
    min_hours = pos e.1.min_hours;
    next_id = pos e.1.next_id;
    version = pos e.1.version;
  },
)

-- The rows of `ring`: one for each ring.
abbrev pub ring_entries : NamedRings → List (List ℕ × rows.Ring)
ring_entries rings = map ring_entry rings

-- ---- the rows of its devices

-- 1 for a device that is marked to be removed, else 0.
abbrev pub mark_number : Bool → ℤ
mark_number removed = cond removed (pos 1) (pos 0)

-- The row of a device of the ring of this name.
abbrev pub device_entry : List ℕ → Device → rows.NameNumber × rows.Device
device_entry name device = (
  (name, pos device.id),
  record {
    region = pos device.row.region;
    zone = pos device.row.zone;
    address = address_text device.row.address;
    port = pos device.row.port;
    name = device.row.name;
    weight = pos device.row.weight;
    removed = mark_number device.removed;
  },
)

-- The rows of `device`: one for each device of each ring.
abbrev pub device_entries : NamedRings → List (rows.NameNumber × rows.Device)
device_entries rings = flat_map (λ e. map (device_entry e.0) e.1.devices) rings

-- ---- the rows of its published texts

-- The row of a text that the ring of this name published under a version.
abbrev pub published_entry : List ℕ → ℕ × List ℕ → rows.NameNumber × List ℕ
published_entry name text = ((name, pos text.0), text.1)

-- The rows of `published`: one for each published text of each ring.
abbrev pub published_entries : NamedRings → List (rows.NameNumber × List ℕ)
published_entries rings = flat_map (λ e. map (published_entry e.0) e.1.published) rings

-- ---- the rows of its partitions

-- A device's number in two bytes, the greater first.
abbrev pub two_bytes : ℕ → List ℕ
two_bytes id = id / 256 ∷ id % 256 ∷ []

-- The devices of a partition in order of replica, in two bytes each, where the seats stand by
-- partition and so many a partition. Nothing where the seats are empty.
abbrev pub stored_seats : ℕ → List ℕ → ℕ → List ℕ
stored_seats replicas seats partition =
    flat_map two_bytes (take replicas (drop (partition * replicas) seats))

-- The hour of a last move, -1 for never.
abbrev pub hour_number : Option ℕ → ℤ
hour_number None = negsuc 0
hour_number (Some hour) = pos hour

-- The row of a partition of the ring of this name, which was moved last at this hour or never.
abbrev pub part_entry : List ℕ → ℕ → List ℕ → ℕ × Option ℕ → rows.NameNumber × rows.Part
part_entry name replicas seats part = (
  (name, pos part.0),
  record {
    devices = stored_seats replicas seats part.0;
    hour = hour_number part.1;
  },
)

-- The rows of the partitions of one ring.
abbrev pub part_entries_of : List ℕ × RingRecord → List (rows.NameNumber × rows.Part)
part_entries_of e = map (part_entry e.0 e.1.replicas e.1.seats) (enumerate_from 0 e.1.moved)

-- The rows of `part`: one for each partition of each ring.
abbrev pub part_entries : NamedRings → List (rows.NameNumber × rows.Part)
part_entries rings = flat_map part_entries_of rings
