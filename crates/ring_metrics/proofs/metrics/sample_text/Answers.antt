use Rattle.std.proofs.Common.{rules, ◌≡◌, ◌∙◌, codes, string_bytes}
use Rattle.std.proofs.lemmas.Result.{IfOk-weaker}
use Rattle.ring_metrics.specs.Metrics.{figure_name, figure_value, value_text}
use Rattle.ring_metrics.proofs.Joined.{seven_parts}
use Rattle.ring_metrics.proofs.metrics.sample_text.Goals as goal

pub returns : goal.returns
returns c =
    let what = c.args.what in
    let measured = c.args.measured.now in
    let name : c.name-name.result.now ≡ figure_name what = search rules in
    let value : string_bytes c.in_ok-value.value ≡ value_text (figure_value what measured) =
    search rules in
    IfOk-weaker c.format.result _ _
    (λ text is. is ∙ seven_parts (codes "ringd_") _ (codes "{ring=\"") measured.name.now
    (codes "\"} ") _ (codes "\n") _ _ name value)
    c.format.ensures.ok
