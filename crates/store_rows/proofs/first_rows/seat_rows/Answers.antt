use Rattle.std.proofs.Common.{arith}
use Rattle.std.proofs.lemmas.Grind.{common_steps}
use Rattle.std.proofs.Common.{ℕ, List, map, ap, ◌∙◌, ◌++◌}
use Rattle.std.specs.List.{enumerate_from}
use Rattle.ring_model.specs.Ring.{RingRecord}
use Rattle.store_model.specs.Contents.{seat_of}
use Rattle.store_rows.specs.FirstRows.{seat_entry}
use Rattle.store_rows.proofs.Steps.{seen_step}
use Rattle.store_rows.proofs.first_rows.seat_rows.Goals as goal

pub loop-entry-preserved : goal.loop-entry-preserved
loop-entry-preserved c =
    seen_step (λ (e : List ℕ × RingRecord). map (seat_entry e.0 e.1.replicas)
    (enumerate_from 0 e.1.seats)) c.list-entry-items.result.now c.loop-entry.entry-index
    c.entry-item.result c.loop-entry-test.true c.entry-item.is
    (map seat_of c.loop-entry.rows.items) (map seat_of c.push_seats.new.into.items)
    c.loop-entry.invariant
    (c.in_ok-push_seats.ensures ∙ ap (λ (r : RingRecord). map seat_of c.loop-entry.rows.items ++
    (λ (e : List ℕ × RingRecord). map (seat_entry e.0 e.1.replicas)
    (enumerate_from 0 e.1.seats)) (c.entry-item.result.0, r)) c.as_ref.ensures)

pub returns : goal.returns
returns c = grind (arith, common_steps)
