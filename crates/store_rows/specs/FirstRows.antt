-- Which rows stand for seats and moves in a store of schema 1, which had a row for each seat.
use Rattle.std.specs.Prelude.{ℕ, ◌/◌, ◌%◌, ℤ, pos, List, [], ◌∷◌, map, Option, Some, None}
use Rattle.std.specs.List.{flat_map, enumerate_from}
use Rattle.store_model.specs.Entries.{NameNumber, SeatKey}
use Rattle.store_rows.specs.RingRows.{NamedRings}

-- The row of a seat. The seats of a ring stand by partition and then by replica, so many a
-- partition.
abbrev pub seat_entry : List ℕ → ℕ → ℕ × ℕ → SeatKey × ℤ
seat_entry name replicas seat = (
  (name, (pos (seat.0 / replicas), pos (seat.0 % replicas))),
  pos seat.1,
)

-- The rows of `seat`: one for each seat of each ring, none where the seats are empty.
abbrev pub seat_entries : NamedRings → List (SeatKey × ℤ)
seat_entries rings = flat_map (λ e. map (seat_entry e.0 e.1.replicas) (enumerate_from 0 e.1.seats))
    rings

-- The row of a partition's last move, none where it never was moved.
abbrev pub moved_entry : List ℕ → ℕ × Option ℕ → List (NameNumber × ℤ)
moved_entry name (partition, None) = []
moved_entry name (partition, Some hour) = ((name, pos partition), pos hour) ∷ []

-- The rows of `moved`: one for each partition of each ring that was moved.
abbrev pub moved_entries : NamedRings → List (NameNumber × ℤ)
moved_entries rings = flat_map (λ e. flat_map (moved_entry e.0) (enumerate_from 0 e.1.moved)) rings
