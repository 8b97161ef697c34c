use Rattle.std.proofs.Common.{◌≡◌, List, Option, ℕ, drop, map, take}
use Rattle.std.specs.List.{enumerate_from, flat_map}
use Rattle.store_model.specs.Contents.{moved_of}
use Rattle.store_rows.specs.FirstRows.{moved_entry}
use Rattle.store_rows.specs.Inner.Found.{StandForMoves}
use Rattle.store_rows.proofs.ring_reading.read_moves.Given as goal

abbrev pub invariant-loop-partition : goal.invariant-loop-partition
invariant-loop-partition l = (v : List (Option ℕ)) (stand : StandForMoves l.rows l.partitions v)
    → (l.moved.items ≡ take l.partition v)
    × (map moved_of l.rest ≡ flat_map (moved_entry stand.name)
    (enumerate_from l.partition (drop l.partition v)))
