-- A snapshot of a ring: what its text tells.
use Rattle.std.specs.Prelude.{◌≡◌, ℕ, ◌*◌, ◌^◌, ◌<◌, ◌≤◌, List, length, IsTrue}
use Rattle.ring_words.specs.Limits.{greatest_power, long_count, most_ids, most_replicas}
use Rattle.ring_model.specs.Ring.{RingRecord}
use Rattle.ring_words.specs.Texts.{is_label}
use Rattle.ring_model.specs.Valid.{AreDevices, AreSeats}
use Rattle.ring_words.specs.declared.device.Device.{Device}

-- What the text of a ring tells.
pub record SnapshotRecord : Type 0 where
  pub name : List ℕ
  pub version : ℕ
  -- there are 2 ^ power partitions
  pub power : ℕ
  -- each with so many seats
  pub replicas : ℕ
  -- by rising number
  pub devices : List Device
  -- which device is on each seat, by partition and then by replica
  pub seats : List ℕ

-- Such a snapshot there is: each word is of its form, and all seats are taken by devices that the
-- rules of a ring allow.
pub record IsValidSnapshot (snapshot : SnapshotRecord) : Type 0 where
  pub name : IsTrue (is_label snapshot.name)
  pub version : snapshot.version < long_count
  pub power : (1 ≤ snapshot.power) × (snapshot.power ≤ greatest_power)
  pub replicas : (1 ≤ snapshot.replicas) × (snapshot.replicas ≤ most_replicas)
  pub devices : AreDevices most_ids snapshot.devices
  pub taken : length snapshot.seats ≡ 2 ^ snapshot.power * snapshot.replicas
  pub seats : AreSeats (2 ^ snapshot.power) snapshot.replicas snapshot.devices snapshot.seats

-- the snapshot of a ring, under a name
abbrev pub snapshot_of : List ℕ → RingRecord → SnapshotRecord
snapshot_of name ring = record {
  name = name;
  version = ring.version;
  power = ring.power;
  replicas = ring.replicas;
  devices = ring.devices;
  seats = ring.seats;
}
