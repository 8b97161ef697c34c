use Rattle.std.proofs.Common.{map, ap, ◌∙◌, ◌++◌, None}
use Rattle.ring_model.specs.Ring.{RingRecord}
use Rattle.store_model.specs.Contents.{ring_of}
use Rattle.store_rows.specs.Inner.Lacking.{added_ring}
use Rattle.store_rows.proofs.Steps.{ring_step}
use Rattle.store_rows.proofs.all_rows.ring_rows.Goals as goal

pub loop-entry-preserved : goal.loop-entry-preserved
loop-entry-preserved c =
    ring_step c.list-entry-items.result.now c.loop-entry.entry-index c.entry-item.result
    c.loop-entry-test.true c.entry-item.is (map ring_of c.loop-entry.rows.items)
    (map ring_of c.push_new_ring.new.into.items) c.loop-entry.invariant
    (c.in_ok-push_new_ring.ensures ∙ ap (λ (r : RingRecord). map ring_of c.loop-entry.rows.items ++
    added_ring None (c.entry-item.result.0, r)) c.as_ref.ensures)
