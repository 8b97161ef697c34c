-- The parts of a text, as they are read one after another.
use Rattle.std.specs.Prelude.{◌≡◌, ℕ, ◌*◌, ◌≤◌, ◌<◌, ◌++◌, List, [], ◌∷◌, length, map}
use Rattle.ring_words.specs.Limits.{greatest_long, greatest_power, greatest_short, short_count}
use Rattle.ring_words.specs.Limits.{most_replicas}
use Rattle.std.specs.Prelude.{slice_index_or, IsTrue, All, codes, decimal}
use Rattle.std.specs.Prelude.{◌+◌, ◌-◌, ◌^◌, ◌==◌, drop, slice_index, take}
use Rattle.std.specs.List.{join_with_byte, slice_split}
use Rattle.std.specs.Str.Parse.{AllDigits, digits_value}
use Rattle.ring_words.specs.Rows.{IsProperRow}
use Rattle.ring_words.specs.Texts.{is_label, is_device_name}
use Rattle.ring_words.specs.declared.device.Device.{Device}
use Rattle.ring_text.specs.Snapshot.{SnapshotRecord, IsValidSnapshot}
use Rattle.ring_text.specs.Spelling.{lines_of, device_line, partition_lines, state_word}
use Rattle.ring_words.specs.Spelling.{SpellsNumber, SpellsName, SpellsAddress, SpellsWeight}
use Rattle.ring_text.specs.declared.head.Head.{Head}

-- The line is a key, and then this number.
pub record IsNumberAfter (key text : List ℕ) (least most n : ℕ) : Type 0 where
  pub is : text ≡ key ++ decimal n
  pub above : least ≤ n
  pub below : n ≤ most

-- The line is a key, and then this name.
pub record IsNameAfter (key text name : List ℕ) : Type 0 where
  pub is : text ≡ key ++ name
  pub valid : IsTrue (is_label name)

-- one of some texts, by its place
abbrev pub text_at : List (List ℕ) → ℕ → List ℕ
text_at texts place = slice_index_or texts place []

-- These are the first lines of a text.
pub record IsHead (texts : List (List ℕ)) (head : Head) : Type 0 where
  pub count : length texts ≡ 6
  pub form : text_at texts 0 ≡ codes "swift-ring-text 1"
  pub name : IsNameAfter (codes "ring ") (text_at texts 1) head.name
  pub version : IsNumberAfter (codes "version ") (text_at texts 2) 0 greatest_long head.version
  pub power : IsNumberAfter (codes "power ") (text_at texts 3) 1 greatest_power head.power
  pub replicas : IsNumberAfter (codes "replicas ") (text_at texts 4) 1 most_replicas head.replicas
  pub devices : IsNumberAfter (codes "devices ") (text_at texts 5) 0 greatest_short head.devices

-- These are the words of a device.
pub record IsDevice (words : List (List ℕ)) (device : Device) : Type 0 where
  pub count : length words ≡ 8
  pub id : SpellsNumber (text_at words 0) 0 greatest_short device.id
  pub region : SpellsNumber (text_at words 1) 0 greatest_short device.row.region
  pub zone : SpellsNumber (text_at words 2) 0 greatest_short device.row.zone
  pub address : SpellsAddress (text_at words 3) device.row.address
  pub port : SpellsNumber (text_at words 4) 1 greatest_short device.row.port
  pub weight : SpellsWeight (text_at words 5) device.row.weight
  pub state : text_at words 6 ≡ state_word device.removed
  pub name : SpellsName is_device_name (text_at words 7) device.row.name

-- The line, without its line feed, is that of this device.
pub record IsDeviceLine (text : List ℕ) (device : Device) : Type 0 where
  pub is : text ≡ join_with_byte 32 (device_line device)
  pub id : device.id < short_count
  pub limits : IsProperRow device.row

-- These are the lines of these devices.
pub record AreDeviceLines (texts : List (List ℕ)) (devices : List Device) : Type 0 where
  pub are : texts ≡ map (join_with_byte 32) (map device_line devices)
  pub ids : All (λ device. device.id < short_count) devices
  pub limits : All (λ device. IsProperRow device.row) devices

-- The words are these numbers of devices.
pub record AreNumbers (words : List (List ℕ)) (numbers : List ℕ) : Type 0 where
  pub are : words ≡ map decimal numbers
  pub limits : All (λ n. n < short_count) numbers

-- The line is that of a partition with so many replicas on these devices.
pub record IsPartitionLine (replicas : ℕ) (text : List ℕ) (numbers : List ℕ) : Type 0 where
  pub is : text ≡ join_with_byte 32 (map decimal numbers)
  pub count : length numbers ≡ replicas
  pub limits : All (λ n. n < short_count) numbers

-- These are the lines of partitions with so many replicas and these seats.
pub record ArePartitionLines (replicas : ℕ) (texts : List (List ℕ)) (seats : List ℕ) : Type 0 where
  pub are : texts ≡ map (join_with_byte 32) (partition_lines (length texts) replicas seats)
  pub count : length seats ≡ length texts * replicas
  pub limits : All (λ n. n < short_count) seats

-- These are the digits from a place of a text on, and their number.
pub record AreDigitsAt (text : List ℕ) (from end number : ℕ) : Type 0 where
  pub after : from ≤ end
  pub within : end ≤ length text
  pub few : end ≤ from + 5
  pub digits : AllDigits 10 (take (end - from) (drop from text))
  pub value : number ≡ digits_value 10 (take (end - from) (drop from text))

-- The digits from a place of a text to another are the one spelling of a number of 16 bits.
pub record AreShort (text : List ℕ) (from end number : ℕ) : Type 0 where
  pub some : from < end
  pub first : slice_index text from ≡ 48 → end ≡ from + 1
  pub below : number ≤ greatest_short

-- From a place on there is this number, a separator, and what stands from another place on.
pub record IsNumberAt (text : List ℕ) (from separator n next : ℕ) : Type 0 where
  pub is : drop from text ≡ decimal n ++ separator ∷ drop next text
  pub below : n ≤ greatest_short
  pub within : next ≤ length text

-- The text begins with the line of a partition with so many replicas on these devices, and goes on
-- so.
pub record BeginsWithPartition (replicas : ℕ) (text row rest : List ℕ) : Type 0 where
  pub line : List ℕ
  pub joined : text ≡ line ++ 10 ∷ rest
  pub is : IsPartitionLine replicas line row

-- From a place to another there is the line of a partition, whose devices stand behind the seats.
pub record IsPartitionAt (replicas : ℕ) (text : List ℕ) (from next : ℕ) (old new : List ℕ) : Type 0
  where
    pub row : List ℕ
    pub begins : BeginsWithPartition replicas (drop from text) row (drop next text)
    pub pushed : new ≡ old ++ row
    pub within : next ≤ length text

-- The text begins with the lines of so many partitions with these seats, and goes on so.
pub record HasPartitions (partitions replicas : ℕ) (text seats rest : List ℕ) : Type 0 where
  pub texts : List (List ℕ)
  pub lines : slice_split (λ b. b == 10) text ≡ texts ++ slice_split (λ b. b == 10) rest
  pub count : length texts ≡ partitions
  pub are : ArePartitionLines replicas texts seats

-- What follows the first lines is so many lines of devices, so many lines of partitions, and what
-- stands round these.
pub record IsCut (device_count partition_count : ℕ) (texts : List (List ℕ)) (parts : List (List ℕ) ×
    List (List ℕ)) : Type 0 where
  pub is : texts ≡ parts.0 ++ codes "seats" ∷ (parts.1 ++ codes "end" ∷ [] ∷ [])
  pub devices : length parts.0 ≡ device_count
  pub partitions : length parts.1 ≡ partition_count

-- The text has these lines in front, so many, and goes on so.
pub record HasLines (count : ℕ) (text : List ℕ) (texts : List (List ℕ)) (rest : List ℕ) : Type 0
  where
    pub lines : slice_split (λ b. b == 10) text ≡ texts ++ slice_split (λ b. b == 10) rest
    pub size : length texts ≡ count

-- Behind the first lines these devices and these seats follow, and nothing else.
pub record FollowHead (head : Head) (texts : List (List ℕ)) (devices : List Device) (seats : List ℕ) :
    Type 0 where
  pub parts : List (List ℕ) × List (List ℕ)
  pub cut : IsCut head.devices (2 ^ head.power) texts parts
  pub first : AreDeviceLines parts.0 devices
  pub second : ArePartitionLines head.replicas parts.1 seats

-- the snapshot that these parts make
abbrev pub made : Head → List Device → List ℕ → SnapshotRecord
made head devices seats = record {
  name = head.name;
  version = head.version;
  power = head.power;
  replicas = head.replicas;
  devices = devices;
  seats = seats;
}

-- These are the parts of a snapshot.
pub record IsMadeOfLines (head : Head) (devices : List Device) (seats : List ℕ)
    (snapshot : SnapshotRecord) : Type 0 where
  pub valid : IsValidSnapshot snapshot
  pub is : snapshot ≡ made head devices seats

-- These are the lines of a snapshot's text, and nothing follows the last line feed.
pub record AreRingLines (texts : List (List ℕ)) (snapshot : SnapshotRecord) : Type 0 where
  pub valid : IsValidSnapshot snapshot
  pub are : texts ≡ map (join_with_byte 32) (lines_of snapshot) ++ [] ∷ []
