use Rattle.std.proofs.Common.{◌≡◌, ℕ, List, map, take}
use Rattle.std.specs.List.{enumerate_from, flat_map}
use Rattle.ring_model.specs.Ring.{RingRecord}
use Rattle.ring_model.specs.Rings.{seen}
use Rattle.store_model.specs.Contents.{seat_of}
use Rattle.store_rows.specs.FirstRows.{seat_entry}
use Rattle.store_rows.proofs.first_rows.seat_rows.Given as goal

abbrev pub invariant-loop-entry : goal.invariant-loop-entry
invariant-loop-entry l = map seat_of l.rows.items ≡ flat_map (λ (e : List ℕ × RingRecord). map
    (seat_entry e.0 e.1.replicas) (enumerate_from 0 e.1.seats))
    (seen (take l.entry-index l.entry-items))
