-- Seats that stay and partitions that change from one ring to another, of as many partitions and
-- replicas.
use Rattle.std.specs.Prelude.{ℕ, ◌==◌, ◌&&◌, Bool, List, count_by}
use Rattle.std.specs.List.{range_with_len, zip}
use Rattle.ring_model.specs.Ring.{RingRecord, partition_count}
use Rattle.ring_place.specs.Rebalance.{has_changed}

-- whether a seat is on the device of a number in both rings
abbrev pub stays_on : ℕ → ℕ × ℕ → Bool
stays_on id seat = (seat.0 == id) && (seat.1 == id)

-- how many seats are on the device of a number in both lists, which tell the devices of the same
-- seats in the same order
abbrev pub staying_in : List ℕ → List ℕ → ℕ → ℕ
staying_in before after id = count_by (stays_on id) (zip before after)

-- how many seats stay on the device of a number; none where the seats of the old ring are empty
abbrev pub staying_seats : RingRecord → RingRecord → ℕ → ℕ
staying_seats old new id = staying_in old.seats new.seats id

-- how many partitions have a seat that differs
abbrev pub changed_partitions : RingRecord → RingRecord → ℕ
changed_partitions old new = count_by (has_changed old new)
    (range_with_len 0 (partition_count old))
