use Rattle.std.proofs.Common.{rules, ◌≡◌, ◌∙◌, string_bytes}
use Rattle.std.proofs.lemmas.Result.{IfOk-weaker}
use Rattle.ring_metrics.specs.Metrics.{figure_help, figure_name, metric_head}
use Rattle.ring_metrics.proofs.Joined.{two_parts}
use Rattle.ring_metrics.proofs.metrics.figure_text.Goals as goal

pub returns : goal.returns
returns c =
    let what = c.args.what in
    let head : string_bytes c.in_ok-head.head ≡ metric_head (figure_name what) (figure_help what) =
    search rules in
    IfOk-weaker c.format.result _ _
    (λ text is. is ∙ two_parts _ _ _ _ head c.in_ok-samples.ensures)
    c.format.ensures.ok
