use Rattle.std.proofs.Common.{◌∙◌}
use Rattle.std.proofs.lemmas.Result.{IfOk-weaker}
use Rattle.ring_metrics.proofs.Joined.{three_parts}
use Rattle.ring_metrics.proofs.metrics.states_text.Goals as goal

pub returns : goal.returns
returns c = IfOk-weaker c.format.result _ _
    (λ text is. is ∙ three_parts _ _ _ _ _ _ c.in_ok-opened.ensures c.in_ok-drained.ensures
    c.in_ok-removed.ensures)
    c.format.ensures.ok
