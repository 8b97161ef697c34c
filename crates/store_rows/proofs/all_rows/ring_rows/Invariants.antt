use Rattle.std.proofs.Common.{◌≡◌, map, take}
use Rattle.ring_model.specs.Rings.{seen}
use Rattle.store_model.specs.Contents.{ring_of}
use Rattle.store_rows.specs.RingRows.{ring_entries}
use Rattle.store_rows.proofs.all_rows.ring_rows.Given as goal

abbrev pub invariant-loop-entry : goal.invariant-loop-entry
invariant-loop-entry l = map ring_of l.rows.items ≡ ring_entries
    (seen (take l.entry-index l.entry-items))
