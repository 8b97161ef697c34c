-- Which seats differ between two rings that were published of one, partition by partition. Where
-- the power was raised between, each partition of the one of fewer became as many new ones, which
-- stand in its place and have its devices.
use Rattle.std.specs.Prelude.{ℕ, ◌+◌, ◌-◌, ◌*◌, ◌/◌, ◌^◌, ◌==◌, ◌&&◌, ◌||◌, Bool, nat_lt}
use Rattle.std.specs.Prelude.{List, [], ◌∷◌, ◌++◌, codes, count_by, decimal, filter, length, map}
use Rattle.std.specs.Prelude.{if◌then◌else◌, max, Option, Some, None, slice_get}
use Rattle.std.specs.List.{flat_map, range_with_len}
use Rattle.ring_model.specs.Ring.{has_device}
use Rattle.ring_place.specs.Rebalance.{differs}
use Rattle.ring_reads.specs.declared.seat_moves.Move.{Move}
use Rattle.ring_share.specs.Crowd.{is_on}
use Rattle.ring_text.specs.Snapshot.{SnapshotRecord}
use Rattle.ring_words.specs.Limits.{most_ids}

-- the power that both have once the lesser was raised
abbrev pub common_power : SnapshotRecord → SnapshotRecord → ℕ
common_power old new = max old.power new.power

-- the device on the seat of a replica of a partition, where the ring was raised to this power; none
-- where it has no such replica
abbrev pub raised_seat : SnapshotRecord → ℕ → ℕ → ℕ → Option ℕ
raised_seat ring power partition replica = if nat_lt replica ring.replicas then slice_get ring.seats
    ((partition / 2 ^ (power - ring.power)) * ring.replicas + replica) else None

-- what was on a seat and what is, of two rings that were raised to this power
abbrev pub move_at : SnapshotRecord → SnapshotRecord → ℕ → ℕ → ℕ → Move
move_at old new power partition replica = record {
  partition = partition;
  replica = replica;
  from = raised_seat old power partition replica;
  to = raised_seat new power partition replica;
}

-- whether that differs
abbrev pub is_move : Move → Bool
is_move move = differs move.from move.to

-- the seats of a partition that differ, by replica
abbrev pub partition_moves : SnapshotRecord → SnapshotRecord → ℕ → ℕ → List Move
partition_moves old new power partition = filter is_move (map (move_at old new power partition)
    (range_with_len 0 (max old.replicas new.replicas)))

-- all seats that differ, by partition and then by replica
unfoldable pub seat_moves : SnapshotRecord → SnapshotRecord → List Move
seat_moves old new = flat_map (partition_moves old new (common_power old new))
    (range_with_len 0 (2 ^ common_power old new))

-- how many partitions have such a seat
unfoldable pub moved_partitions : SnapshotRecord → SnapshotRecord → ℕ
moved_partitions old new = count_by
    (λ partition. nat_lt 0 (length (partition_moves old new (common_power old new) partition)))
    (range_with_len 0 (2 ^ common_power old new))

-- how many of these seats the device of a number had
abbrev pub given_seats : List Move → ℕ → ℕ
given_seats moves id = count_by (λ move. is_on (λ other. other == id) move.from) moves

-- how many of them it has
abbrev pub taken_seats : List Move → ℕ → ℕ
taken_seats moves id = count_by (λ move. is_on (λ other. other == id) move.to) moves

-- whether the device of a number is one of either ring, and gives or takes
abbrev pub is_mover : SnapshotRecord → SnapshotRecord → List Move → ℕ → Bool
is_mover old new moves id = (has_device id old.devices || has_device id new.devices)
    && (nat_lt 0 (given_seats moves id) || nat_lt 0 (taken_seats moves id))

-- the numbers of the devices that give or take, by rising number
unfoldable pub movers : SnapshotRecord → SnapshotRecord → List Move → List ℕ
movers old new moves = filter (is_mover old new moves) (range_with_len 0 most_ids)

-- a seat in a line: the number of its device, or `-` where it isn't there
abbrev pub seat_word : Option ℕ → List ℕ
seat_word None = codes "-"
seat_word (Some id) = decimal id

-- a seat that differs as a line: partition and replica, and where it was and is
abbrev pub move_line : Move → List ℕ
move_line move = decimal move.partition ++ 32 ∷ (decimal move.replica ++ 32 ∷
    (seat_word move.from ++ 32 ∷ (seat_word move.to ++ 10 ∷ [])))

-- all of them
abbrev pub move_lines : SnapshotRecord → SnapshotRecord → List ℕ
move_lines old new = flat_map move_line (seat_moves old new)
