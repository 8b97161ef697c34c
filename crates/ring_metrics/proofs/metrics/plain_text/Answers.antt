use Rattle.std.proofs.Common.{◌∙◌, codes, decimal}
use Rattle.std.proofs.lemmas.Result.{IfOk-weaker}
use Rattle.ring_metrics.proofs.Joined.{six_parts}
use Rattle.ring_metrics.proofs.metrics.plain_text.Goals as goal

pub returns : goal.returns
returns c = IfOk-weaker c.format.result _ _
    (λ text is. is ∙ six_parts _ (codes "ringd_") c.args.name.now (codes " ")
    (decimal c.args.value) (codes "\n") _ c.in_ok-head.ensures)
    c.format.ensures.ok
