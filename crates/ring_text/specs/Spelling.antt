-- The one text of a snapshot.
use Rattle.std.specs.Prelude.{◌≡◌, ℕ, ◌+◌, ◌*◌, ◌^◌, Bool, true, false, List, [], ◌∷◌, ◌++◌, length}
use Rattle.std.specs.Prelude.{map, codes, decimal}
use Rattle.std.specs.List.{flat_map, join_with_byte, range_with_len, slice_range}
use Rattle.ring_words.specs.Texts.{address_text, hundredths_text}
use Rattle.ring_words.specs.declared.device.Device.{Device}
use Rattle.ring_text.specs.Snapshot.{SnapshotRecord, IsValidSnapshot}

-- a line: its words, one space between each two, and a line feed
abbrev pub line : List (List ℕ) → List ℕ
line words = join_with_byte 32 words ++ 10 ∷ []

-- whether a device is marked to be removed
abbrev pub state_word : Bool → List ℕ
state_word true = codes "removed"
state_word false = codes "present"

-- the first lines: the form of the text, and the ring's name and numbers
unfoldable pub head_lines : SnapshotRecord → List (List (List ℕ))
head_lines snapshot = (codes "swift-ring-text" ∷ codes "1" ∷ [])
    ∷ (codes "ring" ∷ snapshot.name ∷ [])
    ∷ (codes "version" ∷ decimal snapshot.version ∷ [])
    ∷ (codes "power" ∷ decimal snapshot.power ∷ [])
    ∷ (codes "replicas" ∷ decimal snapshot.replicas ∷ [])
    ∷ (codes "devices" ∷ decimal (length snapshot.devices) ∷ [])
    ∷ []

-- the line of a device
abbrev pub device_line : Device → List (List ℕ)
device_line device = decimal device.id
    ∷ decimal device.row.region
    ∷ decimal device.row.zone
    ∷ address_text device.row.address
    ∷ decimal device.row.port
    ∷ hundredths_text device.row.weight
    ∷ state_word device.removed
    ∷ device.row.name
    ∷ []

-- the line of a partition: the devices of its seats, by replica
abbrev pub partition_line : ℕ → List ℕ → ℕ → List (List ℕ)
partition_line replicas seats partition = map decimal (slice_range seats (partition * replicas)
    (partition * replicas + replicas))

-- the lines of so many partitions
abbrev pub partition_lines : ℕ → ℕ → List ℕ → List (List (List ℕ))
partition_lines partitions replicas seats = map (partition_line replicas seats)
    (range_with_len 0 partitions)

-- all lines, each as its words
abbrev pub lines_of : SnapshotRecord → List (List (List ℕ))
lines_of snapshot = head_lines snapshot
    ++ map device_line snapshot.devices
    ++ (codes "seats" ∷ []) ∷ []
    ++ partition_lines (2 ^ snapshot.power) snapshot.replicas snapshot.seats
    ++ (codes "end" ∷ []) ∷ []

-- the one spelling of a snapshot
abbrev pub spelling : SnapshotRecord → List ℕ
spelling snapshot = flat_map line (lines_of snapshot)

-- The bytes are the text of a snapshot.
pub record Spells (bytes : List ℕ) (snapshot : SnapshotRecord) : Type 0 where
  pub valid : IsValidSnapshot snapshot
  pub text : bytes ≡ spelling snapshot
