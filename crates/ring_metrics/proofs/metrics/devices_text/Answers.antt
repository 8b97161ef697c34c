use Rattle.std.proofs.Common.{◌∙◌}
use Rattle.std.proofs.lemmas.Result.{IfOk-weaker}
use Rattle.ring_metrics.proofs.Joined.{two_parts}
use Rattle.ring_metrics.proofs.metrics.devices_text.Goals as goal

pub returns : goal.returns
returns c = IfOk-weaker c.format.result _ _
    (λ text is. is ∙ two_parts _ _ _ _ c.in_ok-head.ensures c.in_ok-states.ensures)
    c.format.ensures.ok
