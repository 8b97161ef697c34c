use Rattle.std.proofs.Common.{arith}
use Rattle.std.proofs.lemmas.Grind.{common_steps}
use Rattle.std.proofs.Common.{ℕ, List, map, ap, ◌∙◌, ◌++◌}
use Rattle.std.specs.List.{enumerate_from, flat_map}
use Rattle.ring_model.specs.Ring.{RingRecord}
use Rattle.store_model.specs.Contents.{moved_of}
use Rattle.store_rows.specs.FirstRows.{moved_entry}
use Rattle.store_rows.proofs.Steps.{seen_step}
use Rattle.store_rows.proofs.first_rows.moved_rows.Goals as goal

pub loop-entry-preserved : goal.loop-entry-preserved
loop-entry-preserved c =
    seen_step (λ (e : List ℕ × RingRecord). flat_map (moved_entry e.0) (enumerate_from 0 e.1.moved))
    c.list-entry-items.result.now c.loop-entry.entry-index c.entry-item.result
    c.loop-entry-test.true c.entry-item.is
    (map moved_of c.loop-entry.rows.items) (map moved_of c.push_moves.new.into.items)
    c.loop-entry.invariant
    (c.in_ok-push_moves.ensures ∙ ap (λ (r : RingRecord). map moved_of c.loop-entry.rows.items ++
    (λ (e : List ℕ × RingRecord). flat_map (moved_entry e.0) (enumerate_from 0 e.1.moved))
    (c.entry-item.result.0, r)) c.as_ref.ensures)

pub returns : goal.returns
returns c = grind (arith, common_steps)
