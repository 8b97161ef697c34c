use Rattle.std.proofs.Common.{◌++◌, ◌∷◌, [], sym, ap, ◌∙◌}
use Rattle.ring_deal.proofs.Lists.{range_more}
use Rattle.ring_deal.proofs.draws.numbers.Goals as goal

pub loop-number-preserved : goal.loop-number-preserved
loop-number-preserved c = c.in_ok-push.ensures.items ∙ ap (λ xs. xs ++ c.loop-number.number ∷
    []) c.loop-number.invariant ∙ sym (range_more c.loop-number.number)
