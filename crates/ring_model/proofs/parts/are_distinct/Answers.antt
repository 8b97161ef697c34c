use Rattle.std.proofs.Common.{sym, ◌∙◌, refl, true≢false, arith}
use Rattle.ring_model.proofs.Validity.{distinct_more, distinct_fails, distinct_all}
use Rattle.ring_model.proofs.parts.are_distinct.Goals as goal

pub returns-then-contains : goal.returns-then-contains
returns-then-contains c = (
  λ no. absurd (true≢false (sym no)),
  λ distinct. absurd (distinct_fails c.args.seats.now c.args.replicas c.loop-place.place _ _
      c.loop-place.invariant.0 c.requires (omega arith) refl
      (sym c.contains.ensures.value ∙ c.if-contains.true) distinct),
)

pub loop-place-preserved : goal.loop-place-preserved
loop-place-preserved c = (
  c.next_below-before.ensures c.loop-place.place c.loop-place.invariant.0,
  distinct_more c.args.seats.now c.args.replicas c.loop-place.place _ _ c.loop-place.invariant.0
      (omega arith) refl (sym c.contains.ensures.value ∙ c.if-contains.false)
      c.loop-place.invariant.1,
)

pub returns : goal.returns
returns c = (
  λ _. distinct_all c.args.seats.now c.args.replicas c.loop-place.place (omega arith)
      c.loop-place.invariant.1,
  λ _. refl,
)
