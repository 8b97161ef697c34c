use Rattle.std.proofs.Common.{All, ℕ, List, subst}
use Rattle.std.specs.declared.rc.Rc.{Rc}
use Rattle.std.specs.declared.alloc.Global.{Global}
use Rattle.std.proofs.lemmas.List.{take_all}
use Rattle.std.proofs.lemmas.List.Elements.{All-more}
use Rattle.ring_model.specs.Ring.{RingRecord}
use Rattle.ring_model.specs.declared.ring.Ring.{Ring}
use Rattle.store_rows.specs.Stands.{IsNamedRing}
use Rattle.store_rows.proofs.Changing.{all_mapped}
use Rattle.store_rows.proofs.proper.rings_are_proper.Goals as goal

pub loop-entry-preserved : goal.loop-entry-preserved
loop-entry-preserved c =
    All-more (λ (e : List ℕ × Rc Ring Global). IsNamedRing (e.0, e.1.value))
    c.list-entry-items.result.now c.loop-entry.entry-index c.entry-item.result
    c.loop-entry-test.true c.loop-entry.invariant
    (subst (λ (e : List ℕ × Rc Ring Global). IsNamedRing (e.0, e.1.value)) c.entry-item.is
    (subst (λ (r : RingRecord). IsNamedRing (c.entry-item.result.0, r)) c.as_ref.ensures
    c.ring_is_proper.ensures))

pub returns : goal.returns
returns c = record {
  count = c.list-entry-items.ensures.count;
  by_name = c.list-entry-items.ensures.by_name;
  each = subst (All IsNamedRing) c.list-entry-items.ensures.value
      (all_mapped IsNamedRing (λ (e : List ℕ × Rc Ring Global). (e.0, e.1.value))
      c.list-entry-items.result.now
      (subst (λ es. All (λ (e : List ℕ × Rc Ring Global). IsNamedRing (e.0, e.1.value)) es)
      (take_all c.loop-entry.entry-index c.list-entry-items.result.now c.loop-entry-test.false)
      c.loop-entry.invariant));
}
