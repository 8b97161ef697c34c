-- Lines at which texts stop being those of rings.
use Rattle.std.specs.Prelude.{◌≡◌, ◌++◌, ◌<◌, ◌^◌, ℕ, List, [], ◌∷◌, All, codes, false, length, map}
use Rattle.std.specs.List.{join_with_byte}
use Rattle.ring_words.specs.Rows.{has_place}
use Rattle.ring_words.specs.declared.device.Device.{Device}
use Rattle.ring_model.specs.Valid.{AreSeats}
use Rattle.ring_text.specs.Snapshot.{SnapshotRecord, IsValidSnapshot}
use Rattle.ring_text.specs.Spelling.{device_line, partition_lines}
use Rattle.ring_text.specs.Inner.Reading.{AreRingLines, IsDeviceLine, IsHead, IsPartitionLine}
use Rattle.ring_text.specs.Inner.Reading.{text_at}
use Rattle.ring_text.specs.declared.head.Head.{Head}

-- what the first lines of a snapshot's text tell
abbrev pub head_of : SnapshotRecord → Head
head_of snapshot = record {
  name = snapshot.name;
  version = snapshot.version;
  power = snapshot.power;
  replicas = snapshot.replicas;
  devices = length snapshot.devices;
}

-- the lines of a snapshot's devices
abbrev pub texts_of_devices : SnapshotRecord → List (List ℕ)
texts_of_devices snapshot = map (join_with_byte 32) (map device_line snapshot.devices)

-- the lines of a snapshot's partitions
abbrev pub texts_of_partitions : SnapshotRecord → List (List ℕ)
texts_of_partitions snapshot = map (join_with_byte 32) (partition_lines (2 ^ snapshot.power)
    snapshot.replicas snapshot.seats)

-- the lines that follow those of a snapshot's devices
abbrev pub seat_texts : SnapshotRecord → List (List ℕ)
seat_texts snapshot = codes "seats" ∷ (texts_of_partitions snapshot ++ codes "end" ∷ [] ∷ [])

-- the lines that follow the first ones of a snapshot
abbrev pub last_texts : SnapshotRecord → List (List ℕ)
last_texts snapshot = texts_of_devices snapshot ++ seat_texts snapshot

-- No text of a ring begins with these lines and has more.
abbrev pub CannotBegin : List (List ℕ) → Type 0
CannotBegin lines = (snapshot : SnapshotRecord) (next : List ℕ) (more : List (List ℕ)) →
    AreRingLines (lines ++ next ∷ more) snapshot → ⊥

-- No text of a ring with these first lines goes on with such lines and has more.
abbrev pub CannotFollow : Head → List (List ℕ) → Type 0
CannotFollow head lines = (snapshot : SnapshotRecord) (next : List ℕ) (more : List (List ℕ)) →
    IsValidSnapshot snapshot → head ≡ head_of snapshot →
    last_texts snapshot ≡ lines ++ next ∷ more → ⊥

-- No text of a ring with these first lines and these devices goes on with such lines and has more.
abbrev pub CannotEnd : Head → List Device → List (List ℕ) → Type 0
CannotEnd head devices lines = (snapshot : SnapshotRecord) (next : List ℕ)
    (more : List (List ℕ)) → IsValidSnapshot snapshot → head ≡ head_of snapshot →
    devices ≡ snapshot.devices → seat_texts snapshot ≡ lines ++ next ∷ more → ⊥

-- The line stands at this place of some first lines.
pub record IsHeadLine (place : ℕ) (text : List ℕ) : Type 0 where
  pub texts : List (List ℕ)
  pub head : Head
  pub are : IsHead texts head
  pub here : text_at texts place ≡ text

-- A device can stand behind others: its number is greater, and none of them has its address, port
-- and name.
pub record CanFollow (devices : List Device) (device : Device) : Type 0 where
  pub numbers : All (λ earlier. earlier.id < device.id) devices
  pub place : has_place device.row devices ≡ false

-- The line is that of no device that can stand behind these.
abbrev pub IsNoNext : List Device → List ℕ → Type 0
IsNoNext devices text = (device : Device) → IsDeviceLine text device → CanFollow devices device → ⊥

-- The line is that of no partition with so many replicas on these devices.
abbrev pub IsNoPartition : ℕ → List Device → List ℕ → Type 0
IsNoPartition replicas devices text = (numbers : List ℕ) → IsPartitionLine replicas text numbers →
    AreSeats 1 replicas devices numbers → ⊥
