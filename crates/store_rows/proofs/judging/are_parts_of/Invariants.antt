use Rattle.std.proofs.Common.{◌≡◌, ◌++◌, map, take}
use Rattle.std.specs.List.{flat_map}
use Rattle.ring_model.specs.Rings.{seen}
use Rattle.store_model.specs.Contents.{part_of}
use Rattle.store_rows.specs.RingRows.{part_entries_of}
use Rattle.store_rows.proofs.judging.are_parts_of.Given as goal

abbrev pub invariant-loop-entry : goal.invariant-loop-entry
invariant-loop-entry l = map part_of l.rows ≡ flat_map part_entries_of
    (seen (take l.entry-index l.entry-items)) ++ map part_of l.rest
