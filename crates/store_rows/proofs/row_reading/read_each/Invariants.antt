use Rattle.std.proofs.Common.{◌≡◌, List, map, take}
use Rattle.std.specs.List.{AllZip}
use Rattle.store_rows.proofs.row_reading.read_each.Given as goal

abbrev pub invariant-loop-row : goal.invariant-loop-row
invariant-loop-row g l = (things : List g.T.Readable.Value) → AllZip g.T.Readable.stands l.rows things
    → map g.T.Readable.value l.things.items ≡ take l.row-index things
