use Rattle.std.proofs.Common.{rules, ◌≡◌, ◌∙◌, codes, string_bytes}
use Rattle.std.proofs.lemmas.Result.{IfOk-weaker}
use Rattle.ring_metrics.specs.Metrics.{plain_metric}
use Rattle.ring_metrics.proofs.Joined.{three_parts}
use Rattle.ring_metrics.proofs.metrics.store_text.Goals as goal

pub returns : goal.returns
returns c =
    let store = c.args.store.now in
    let kept : string_bytes c.in_ok-kept.kept ≡ plain_metric (codes "numbers_kept")
    (codes "Numbers of callers that are kept.") store.kept = search rules in
    let limit : string_bytes c.in_ok-limit.limit ≡ plain_metric (codes "numbers_limit")
    (codes "Most numbers that may be kept.") store.limit = search rules in
    let hour : string_bytes c.in_ok-hour.hour ≡ plain_metric (codes "greatest_hour")
    (codes "Greatest hour decided at, in hours since 1970.") store.hour = search rules in
    IfOk-weaker c.format.result _ _
    (λ text is. is ∙ three_parts _ _ _ _ _ _ kept limit hour)
    c.format.ensures.ok
