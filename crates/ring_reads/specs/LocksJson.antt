-- Which partitions of a ring are locked, and for how many hours, as compact JSON, its keys in byte
-- order.
use Rattle.std.specs.Prelude.{◌≡◌, ℕ, List, codes, map}
use Rattle.serde_json.specs.Data.{Data, string, array, object, Members, no_members, member, put}
use Rattle.serde_json.specs.View.{items_of}
use Rattle.serde_json.specs.Written.{compact_text}
use Rattle.ring_messages.specs.Fields.{whole}
use Rattle.ring_model.specs.Ring.{RingRecord, partition_count}
use Rattle.ring_metrics.specs.Locks.{AreLockEnds, locked_count}
use Rattle.ring_metrics.specs.declared.locks.LockEnd.{LockEnd}

-- what is told of the partitions that are free after so many hours
abbrev pub lock_end_data : LockEnd → Data
lock_end_data end =
    object (member (codes "hours") (whole end.hours)
    (member (codes "partitions") (whole end.partitions) no_members))

-- the numbers and the name that are told of the locks of a ring of this name at an hour: of its
-- `partitions` so many are `locked`
abbrev pub locks_figures : List ℕ → RingRecord → ℕ → Members
locks_figures name ring hour =
    member (codes "hour") (whole hour)
    (member (codes "locked") (whole (locked_count ring hour))
    (member (codes "min_hours") (whole ring.min_hours)
    (member (codes "partitions") (whole (partition_count ring))
    (member (codes "ring") (string name) no_members))))

-- what is told of them: these, and after how many hours how many are free
abbrev pub locks_data : List ℕ → RingRecord → ℕ → List LockEnd → Data
locks_data name ring hour ends =
    object (put (codes "rests") (array (items_of (map lock_end_data ends)))
    (locks_figures name ring hour))

-- The text tells of the locks of a ring of this name at an hour.
abbrev pub IsLocksJson : List ℕ → RingRecord → ℕ → List ℕ → Type 0
IsLocksJson name ring hour text = (ends : List LockEnd) × AreLockEnds ring hour ends
    × (text ≡ compact_text (locks_data name ring hour ends))
