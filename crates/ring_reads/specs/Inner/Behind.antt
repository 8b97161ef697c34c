-- The members of objects that stand behind their last lists.
use Rattle.std.specs.Prelude.{ℕ, List, codes, length}
use Rattle.serde_json.specs.Data.{Members, member, no_members, string}
use Rattle.ring_messages.specs.Fields.{whole}
use Rattle.ring_model.specs.Ring.{RingRecord}
use Rattle.ring_share.specs.Figures.{ring_dispersion}
use Rattle.ring_metrics.specs.Locks.{locked_count}
use Rattle.ring_reads.specs.Moves.{changed_partitions}

-- those of the locks of a ring of this name
abbrev pub behind_rests : List ℕ → Members
behind_rests name = member (codes "ring") (string name) no_members

-- those of a ring of this name, whose last locked partition is free after so many hours
abbrev pub behind_published : List ℕ → RingRecord → ℕ → Members
behind_published name ring rest =
    member (codes "replicas") (whole ring.replicas)
    (member (codes "rests") (whole rest)
    (member (codes "ring") (string name)
    (member (codes "seats") (whole (length ring.seats))
    (member (codes "version") (whole ring.version) no_members))))

-- those of a rebalance of a ring of this name at an hour with a seed, which gives a new ring
abbrev pub behind_moving : List ℕ → ℕ → ℕ → RingRecord → RingRecord → Members
behind_moving name hour seed old new =
    member (codes "dispersion") (whole (ring_dispersion new))
    (member (codes "hour") (whole hour)
    (member (codes "locked") (whole (locked_count old hour))
    (member (codes "partitions") (whole (changed_partitions old new))
    (member (codes "ring") (string name)
    (member (codes "seed") (whole seed)
    (member (codes "version") (whole new.version) no_members))))))

-- those of what moved between two versions of a ring of this name, in so many partitions
abbrev pub behind_movers : List ℕ → ℕ → ℕ → ℕ → Members
behind_movers name from to partitions =
    member (codes "from") (whole from)
    (member (codes "partitions") (whole partitions)
    (member (codes "ring") (string name)
    (member (codes "to") (whole to) no_members)))
