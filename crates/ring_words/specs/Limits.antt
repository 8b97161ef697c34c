-- The limits of a ring and of what is kept of it. Each number stands here alone: contracts and
-- other words cite it.
use Rattle.std.specs.Prelude.{ℕ, ◌*◌, ◌^◌}

-- The greatest power. A ring of power p has 2 ^ p partitions.
abbrev pub greatest_power : ℕ
greatest_power = 14

-- A ring has at most so many partitions.
abbrev pub most_partitions : ℕ
most_partitions = 2 ^ greatest_power

-- A partition has at most so many replicas.
abbrev pub most_replicas : ℕ
most_replicas = 5

-- A ring has at most so many seats, one for each replica of each partition.
abbrev pub most_seats : ℕ
most_seats = most_partitions * most_replicas

-- A ring has at most so many devices, those that are marked to be removed counted.
abbrev pub most_devices : ℕ
most_devices = 256

-- A ring gives at most so many numbers to devices, so each is below this one.
abbrev pub most_ids : ℕ
most_ids = 65536

-- At most so many rings are kept.
abbrev pub most_rings : ℕ
most_rings = 16

-- A ring keeps the texts of at most so many published versions.
abbrev pub most_versions : ℕ
most_versions = 1000

-- A file keeps at most so many numbers of callers with their replies.
abbrev pub most_numbers : ℕ
most_numbers = 100000

-- The greatest number of 16 bits: of a region, a zone, a port, a device and of hours between moves.
abbrev pub greatest_short : ℕ
greatest_short = 65535

-- So many numbers have 16 bits: each is below this one.
abbrev pub short_count : ℕ
short_count = 2 ^ 16

-- The greatest number of 32 bits: of a version, a seed, an hour, a request, and any other count.
abbrev pub greatest_long : ℕ
greatest_long = 4294967295

-- So many numbers have 32 bits: each is below this one.
abbrev pub long_count : ℕ
long_count = 2 ^ 32
