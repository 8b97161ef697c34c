-- Which rings there are, and how much is kept, as compact JSON, its keys in byte order.
use Rattle.std.specs.Prelude.{ℕ, List, codes, length, map}
use Rattle.serde_json.specs.Data.{Data, string, array, object, no_members, member}
use Rattle.serde_json.specs.View.{items_of}
use Rattle.serde_json.specs.Written.{compact_text}
use Rattle.ring_messages.specs.Fields.{whole}
use Rattle.ring_model.specs.Ring.{RingRecord}
use Rattle.ring_reads.specs.Holding.{Holding}

-- what is told of a ring among the rings: its name and its version
abbrev pub listed_data : List ℕ × RingRecord → Data
listed_data entry =
    object (member (codes "ring") (string entry.0)
    (member (codes "version") (whole entry.1.version) no_members))

-- what is told of the rings, in their order
abbrev pub rings_data : List (List ℕ × RingRecord) → Data
rings_data rings =
    object (member (codes "rings") (array (items_of (map listed_data rings))) no_members)

-- The text of the rings.
abbrev pub rings_json : List (List ℕ × RingRecord) → List ℕ
rings_json rings = compact_text (rings_data rings)

-- what is told of all that is held: the greatest hour that was decided at, how many numbers are kept,
-- how many may be, and how many rings there are
abbrev pub status_data : Holding → Data
status_data held =
    object (member (codes "hour") (whole held.hour)
    (member (codes "kept") (whole held.kept)
    (member (codes "limit") (whole held.limit)
    (member (codes "rings") (whole (length held.rings)) no_members))))

-- The text of it.
abbrev pub status_json : Holding → List ℕ
status_json held = compact_text (status_data held)
