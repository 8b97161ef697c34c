use Rattle.std.proofs.Common.{ℕ, subst}
use Rattle.std.specs.Prelude.{string_bytes}
use Rattle.std.proofs.lemmas.Result.{IfOk-weaker}
use Rattle.ring_metrics.specs.Metrics.{IsMetrics}
use Rattle.ring_metrics.specs.declared.metrics.StoreFigures.{StoreFigures}
use Rattle.ring_reads.specs.Holding.{figures_of, holding_of}
use Rattle.ring_reads.proofs.reads.held_metrics.Goals as goal

pub returns : goal.returns
returns c =
    let held = holding_of c.args.held.now in
    IfOk-weaker c.metrics_text.result _ _
    (λ text is. subst (λ (hour : ℕ). IsMetrics (figures_of held) held.rings hour
    (string_bytes text)) c.hour_now.ensures
    (subst (λ (store : StoreFigures). IsMetrics store held.rings c.hour_now.result
    (string_bytes text)) c.figures.ensures is))
    c.metrics_text.ensures
