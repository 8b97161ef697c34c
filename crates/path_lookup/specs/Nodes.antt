-- The devices that hold what is under a path.
use Rattle.std.specs.Prelude.{◌≡◌, ℕ, ◌-◌, ◌/◌, ◌^◌, ◌<◌, List, ◌++◌, length, take, slice_get}
use Rattle.std.specs.Int.{w32, from_be_bytes}
use Rattle.md5.specs.Md5.{md5}
use Rattle.ring_model.specs.Ring.{RingRecord, seat}
use Rattle.path_lookup.specs.Names.{PathNames, path_text}

-- the hash of a path: the MD5 digest of its text between a prefix and a suffix
abbrev pub path_hash : List ℕ → PathNames → List ℕ → List ℕ
path_hash prefix names suffix = md5 (prefix ++ path_text names ++ suffix)

-- the partition of a hash in a ring of a power: the greatest bits of its first four bytes, as many
-- as the power says
abbrev pub partition_of : List ℕ → ℕ → ℕ
partition_of hash power = from_be_bytes w32 (take 4 hash) / 2 ^ (32 - power)

-- These are the devices of a partition, in order of replica.
pub record AreSeated (ring : RingRecord) (partition : ℕ) (ids : List ℕ) : Type 0 where
  pub count : length ids ≡ ring.replicas
  pub each : (replica : ℕ) → replica < ring.replicas → slice_get ids replica ≡ seat ring partition
      replica

-- These are the nodes of a path: the devices of the partition of its hash, in order of replica.
abbrev pub AreNodes : RingRecord → List ℕ → PathNames → List ℕ → List ℕ → Type 0
AreNodes ring prefix names suffix ids = AreSeated ring (partition_of (path_hash prefix names suffix)
    ring.power) ids
