use Rattle.std.proofs.Common.{◌∙◌, ℕ, List, ap, subst, take}
use Rattle.std.proofs.lemmas.List.{take_all}
use Rattle.ring_model.specs.Ring.{RingRecord}
use Rattle.ring_model.specs.Rings.{seen}
use Rattle.ring_metrics.specs.Measures.{AreMeasured, IsMeasured}
use Rattle.ring_metrics.proofs.Measuring.{measured_more, seen_more}
use Rattle.ring_metrics.proofs.measures.measured_rings.Goals as goal

pub loop-entry-init : goal.loop-entry-init
loop-entry-init c = rw (c.in_ok-all.ensures.items) tt

pub loop-entry-preserved : goal.loop-entry-preserved
loop-entry-preserved c =
    let entries = c.list-entries.result.now in
    let index = c.loop-entry.entry-index in
    let entry = c.entry-item.result in
    let measured = c.in_ok-measured_ring.field-0 in
    let one : IsMeasured (entry.0, entry.1.value) c.args.hour measured =
    subst (λ (ring : RingRecord). IsMeasured (entry.0, ring) c.args.hour measured)
    c.as_ref.ensures c.in_ok-measured_ring.ensures in
    rw (
      c.in_ok-push.ensures.items,
      seen_more entries index entry c.loop-entry-test.true c.entry-item.is,
    )
    (measured_more (seen (take index entries)) c.args.hour c.loop-entry.all.items
    (entry.0, entry.1.value) measured c.loop-entry.invariant one)

pub returns : goal.returns
returns c =
    let entries = c.list-entries.result.now in
    subst (λ (rings : List (List ℕ × RingRecord)). AreMeasured rings c.args.hour
    c.loop-entry.all.items)
    (ap seen (take_all c.loop-entry.entry-index entries c.loop-entry-test.false)
    ∙ c.list-entries.ensures.value)
    c.loop-entry.invariant
