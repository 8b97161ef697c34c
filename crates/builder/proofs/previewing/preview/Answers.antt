use Rattle.std.proofs.Common.{rules}
use Rattle.std.proofs.lemmas.Result.{IfOk-weaker}
use Rattle.builder.proofs.Previews.{one_step}
use Rattle.builder.proofs.previewing.preview.Goals as goal

pub returns-clause-only : goal.returns-clause-only
returns-clause-only c =
    IfOk-weaker c.decide.result _ _
    (λ told. one_step c.args.limits.now c.args.rings.now c.args.hour c.args.name.now c.args.seed
    told.1 told.0) (search rules)
