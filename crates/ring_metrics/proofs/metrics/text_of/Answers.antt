use Rattle.std.proofs.Common.{◌∙◌}
use Rattle.std.proofs.lemmas.Result.{IfOk-weaker}
use Rattle.ring_metrics.proofs.Joined.{three_parts}
use Rattle.ring_metrics.proofs.metrics.text_of.Goals as goal

pub returns : goal.returns
returns c = IfOk-weaker c.format.result _ _
    (λ text is. is ∙ three_parts _ _ _ _ _ _ c.in_ok-kept.ensures c.in_ok-figures.ensures
    c.in_ok-devices.ensures)
    c.format.ensures.ok
