-- What moved between two published versions of a ring, as compact JSON, its keys in byte order.
use Rattle.std.specs.Prelude.{◌≡◌, ℕ, List, Some, codes, length, map}
use Rattle.serde_json.specs.Data.{Data, string, array, object, Members, no_members, member, put}
use Rattle.serde_json.specs.View.{items_of}
use Rattle.serde_json.specs.Written.{compact_text}
use Rattle.ring_messages.specs.Fields.{whole}
use Rattle.ring_model.specs.Ring.{RingRecord, published_at}
use Rattle.ring_reads.specs.SeatMoves.{given_seats, move_lines, moved_partitions, movers}
use Rattle.ring_reads.specs.SeatMoves.{seat_moves, taken_seats}
use Rattle.ring_reads.specs.declared.seat_moves.Move.{Move}
use Rattle.ring_text.specs.Snapshot.{SnapshotRecord}
use Rattle.ring_text.specs.Spelling.{Spells}

-- what is told of a device that gives or takes some of these seats
abbrev pub mover_data : List Move → ℕ → Data
mover_data moves id =
    object (member (codes "gives") (whole (given_seats moves id))
    (member (codes "id") (whole id)
    (member (codes "takes") (whole (taken_seats moves id)) no_members)))

-- what is told of the devices that give or take, by rising number
abbrev pub movers_data : SnapshotRecord → SnapshotRecord → List Data
movers_data old new = map (mover_data (seat_moves old new)) (movers old new (seat_moves old new))

-- the numbers and the name that are told of what moved between these versions of a ring of this
-- name
abbrev pub moves_figures : List ℕ → ℕ → ℕ → SnapshotRecord → SnapshotRecord → Members
moves_figures name from to old new =
    member (codes "changed") (whole (length (seat_moves old new)))
    (member (codes "from") (whole from)
    (member (codes "partitions") (whole (moved_partitions old new))
    (member (codes "ring") (string name)
    (member (codes "to") (whole to) no_members))))

-- what is told of it: these, and the devices that give or take
abbrev pub moves_data : List ℕ → ℕ → ℕ → SnapshotRecord → SnapshotRecord → Data
moves_data name from to old new =
    object (put (codes "devices") (array (items_of (movers_data old new)))
    (moves_figures name from to old new))

-- The ring was published under a version as the text of this one.
abbrev pub WasPublished : RingRecord → ℕ → SnapshotRecord → Type 0
WasPublished ring version snapshot =
    (text : List ℕ) × (published_at ring version ≡ Some text) × Spells text snapshot

-- The text tells what moved between these two versions of a ring of this name.
abbrev pub IsMovesJson : List ℕ → RingRecord → ℕ → ℕ → List ℕ → Type 0
IsMovesJson name ring from to text = (old : SnapshotRecord) × WasPublished ring from old
    × ((new : SnapshotRecord) × WasPublished ring to new
    × (text ≡ compact_text (moves_data name from to old new)))

-- The text has a line for each seat that differs between these two versions of a ring.
abbrev pub AreMoveLines : RingRecord → ℕ → ℕ → List ℕ → Type 0
AreMoveLines ring from to text = (old : SnapshotRecord) × WasPublished ring from old
    × ((new : SnapshotRecord) × WasPublished ring to new × (text ≡ move_lines old new))
