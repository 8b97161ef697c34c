use Rattle.std.proofs.Common.{◌≡◌, ◌*◌, take}
use Rattle.store_rows.specs.Inner.Found.{Places, StandForParts}
use Rattle.store_rows.proofs.ring_reading.read_parts.Given as goal

abbrev pub invariant-loop-row : goal.invariant-loop-row
invariant-loop-row l = (places : Places) (stand : StandForParts l.rows places)
    → (l.seats.items ≡ take (l.row-index * stand.replicas) places.0)
    × (l.moved.items ≡ take l.row-index places.1)
