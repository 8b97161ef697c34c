use Rattle.std.proofs.Common.{◌≡◌, drop, take}
use Rattle.store_rows.specs.RingRows.{NamedRings}
use Rattle.store_rows.specs.Inner.Parted.{SayRest, SayTables}
use Rattle.store_rows.proofs.rings_reading.read_rings.Given as goal

abbrev pub invariant-loop-row : goal.invariant-loop-row
invariant-loop-row l = (all : NamedRings) → SayTables l.is_first l.rows l.fn.tables all →
    (l.rings ≡ take l.row-index all) × SayRest l.is_first l.rest (drop l.row-index all)
