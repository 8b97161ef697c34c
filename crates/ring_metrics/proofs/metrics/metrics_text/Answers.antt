use Rattle.std.proofs.Common.{List, subst, sym}
use Rattle.std.proofs.lemmas.Result.{IfOk-weaker}
use Rattle.ring_metrics.specs.Measures.{AreMeasured}
use Rattle.ring_metrics.specs.declared.measures.Measured.{Measured}
use Rattle.ring_metrics.proofs.metrics.metrics_text.Goals as goal

pub returns : goal.returns
returns c =
    let measured = subst (λ (all : List Measured). AreMeasured c.args.rings.now c.args.hour all)
    (sym c.deref.ensures.value) c.in_ok-all.ensures in
    IfOk-weaker c.text_of.result _ _
    (λ text is. record { all = c.deref.result.now; measured = measured; told = is })
    c.text_of.ensures
