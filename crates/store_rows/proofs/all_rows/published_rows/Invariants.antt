use Rattle.std.proofs.Common.{◌≡◌, map, take}
use Rattle.std.specs.List.{flat_map}
use Rattle.ring_model.specs.Rings.{seen}
use Rattle.store_model.specs.Contents.{published_of}
use Rattle.store_rows.specs.Inner.Lacking.{text_entries_of}
use Rattle.store_rows.proofs.all_rows.published_rows.Given as goal

abbrev pub invariant-loop-entry : goal.invariant-loop-entry
invariant-loop-entry l = map published_of l.rows.items ≡ flat_map text_entries_of
    (seen (take l.entry-index l.entry-items))
