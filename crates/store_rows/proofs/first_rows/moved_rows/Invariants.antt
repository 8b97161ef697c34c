use Rattle.std.proofs.Common.{◌≡◌, ℕ, List, map, take}
use Rattle.std.specs.List.{enumerate_from, flat_map}
use Rattle.ring_model.specs.Ring.{RingRecord}
use Rattle.ring_model.specs.Rings.{seen}
use Rattle.store_model.specs.Contents.{moved_of}
use Rattle.store_rows.specs.FirstRows.{moved_entry}
use Rattle.store_rows.proofs.first_rows.moved_rows.Given as goal

abbrev pub invariant-loop-entry : goal.invariant-loop-entry
invariant-loop-entry l = map moved_of l.rows.items ≡ flat_map (λ (e : List ℕ × RingRecord). flat_map
    (moved_entry e.0) (enumerate_from 0 e.1.moved)) (seen (take l.entry-index l.entry-items))
