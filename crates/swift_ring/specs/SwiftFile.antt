-- Swift's ring file, version 1, before it is compressed.
use Rattle.std.specs.Prelude.{ℕ, ◌+◌, ◌-◌, ◌*◌, ◌^◌, ◌==◌, List, [], ◌∷◌, ◌++◌, length, map, find}
use Rattle.std.specs.Prelude.{Option, None, Some, codes, decimal, slice_get, slice_index}
use Rattle.std.specs.Int.{w16, w32, to_be_bytes, to_le_bytes, from_be_bytes, from_le_bytes}
use Rattle.std.specs.List.{flat_map, range_with_len, slice_range}
use Rattle.ring_words.specs.Texts.{address_text}
use Rattle.ring_words.specs.declared.device.Device.{Device}
use Rattle.ring_text.specs.Snapshot.{SnapshotRecord}
use Rattle.swift_ring.specs.Json.{array, hundredths, member, object, quoted}

-- the members of a device, by their keys in byte order
abbrev pub device_members : Device → List (List ℕ)
device_members device = member (codes "device") (quoted device.row.name)
    ∷ member (codes "id") (decimal device.id)
    ∷ member (codes "ip") (quoted (address_text device.row.address))
    ∷ member (codes "meta") (quoted [])
    ∷ member (codes "port") (decimal device.row.port)
    ∷ member (codes "region") (decimal device.row.region)
    ∷ member (codes "replication_ip") (quoted (address_text device.row.address))
    ∷ member (codes "replication_port") (decimal device.row.port)
    ∷ member (codes "weight") (hundredths device.row.weight)
    ∷ member (codes "zone") (decimal device.row.zone)
    ∷ []

-- what stands at a number: its device, or `null` where no device has it
abbrev pub device_text : Option Device → List ℕ
device_text None = codes "null"
device_text (Some device) = object (device_members device)

-- what stands at this number among these devices
abbrev pub number_entry : List Device → ℕ → List ℕ
number_entry devices id = device_text (find (λ device. device.id == id) devices)

-- the number after that of a device
abbrev pub after : Option Device → ℕ
after None = 0
after (Some device) = device.id + 1

-- how many numbers there are, up to the greatest, which the last device has
abbrev pub number_count : List Device → ℕ
number_count devices = after (slice_get devices (length devices - 1))

-- the entries of all numbers, from 0 on
abbrev pub entries : List Device → List (List ℕ)
entries devices = map (number_entry devices) (range_with_len 0 (number_count devices))

-- what the file tells of the ring beside its seats, as JSON. Swift takes the partition of a path
-- from the first 32 bits of its hash, shifted so far to the right.
abbrev pub ring_json : SnapshotRecord → List ℕ
ring_json snapshot = object (member (codes "byteorder") (quoted (codes "little"))
    ∷ member (codes "devs") (array (entries snapshot.devices))
    ∷ member (codes "part_shift") (decimal (32 - snapshot.power))
    ∷ member (codes "replica_count") (decimal snapshot.replicas)
    ∷ member (codes "version") (decimal snapshot.version)
    ∷ [])

-- the device of a seat, in two bytes
abbrev pub seat_bytes : ℕ → List ℕ → ℕ → ℕ → List ℕ
seat_bytes replicas seats replica partition = to_le_bytes w16
    (slice_index seats (partition * replicas + replica))

-- the devices of a replica, by partition
abbrev pub replica_bytes : ℕ → ℕ → List ℕ → ℕ → List ℕ
replica_bytes partitions replicas seats replica = flat_map (seat_bytes replicas seats replica)
    (range_with_len 0 partitions)

-- the devices of all seats, by replica and then by partition
abbrev pub seats_bytes : ℕ → ℕ → List ℕ → List ℕ
seats_bytes partitions replicas seats = flat_map (replica_bytes partitions replicas seats)
    (range_with_len 0 replicas)

-- the file: its form and version, how long the JSON is, the JSON, and the seats
abbrev pub swift_file : SnapshotRecord → List ℕ
swift_file snapshot = codes "R1NG"
    ++ to_be_bytes w16 1
    ++ to_be_bytes w32 (length (ring_json snapshot))
    ++ ring_json snapshot
    ++ seats_bytes (2 ^ snapshot.power) snapshot.replicas snapshot.seats

-- how a reader finds a seat: behind the JSON, whose length the file tells
abbrev pub seat_in : List ℕ → ℕ → ℕ → ℕ → ℕ
seat_in file partitions replica partition =
    let json = from_be_bytes w32 (slice_range file 6 10) in
    let place = 10 + json + 2 * (replica * partitions + partition) in
    from_le_bytes w16 (slice_range file place (place + 2))
