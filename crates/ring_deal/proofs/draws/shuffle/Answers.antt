use Rattle.std.proofs.Common.{◌∙◌, ap, length, arith}
use Rattle.std.specs.List.{swap}
use Rattle.ring_deal.specs.Draws.{swap_at}
use Rattle.ring_room.proofs.Steps.{steps_end, steps_more}
use Rattle.std.proofs.lemmas.List.Sorted.{IsPermutation-trans}
use Rattle.ring_deal.proofs.draws.shuffle.Goals as goal

pub loop-place-preserved : goal.loop-place-preserved
loop-place-preserved g c = record {
  long = c.swap.ensures.len ∙ c.loop-place.invariant.long;
  moved = IsPermutation-trans c.args.items.now c.loop-place.items c.swap.new.self
      c.loop-place.invariant.moved c.swap.ensures.permutation;
  by_name = steps_more swap_at c.loop-place.place (c.args.items.now, c.args.draws.now)
      (c.loop-place.items, c.loop-place.draws) (c.swap.new.self, c.draw_below-other.new.draws)
      c.loop-place.invariant.by_name
      (ap (λ xs. (xs, c.draw_below-other.new.draws)) c.swap.ensures.after
      ∙ ap (λ p. (swap c.loop-place.items c.loop-place.place p.0, p.1)) c.draw_below-other.ensures.drawn);
}

pub returns-clause-by_name : goal.returns-clause-by_name
returns-clause-by_name g c = steps_end swap_at c.loop-place.place (length c.args.items.now)
    (c.args.items.now, c.args.draws.now) (c.loop-place.items, c.loop-place.draws)
    c.loop-place.invariant.by_name (omega arith)
