use Rattle.std.proofs.Common.{inr}
use Rattle.std.proofs.lemmas.Result.{IfErr-weaker}
use Rattle.programs.specs.Left.{FailsToMake, Finishes}
use Rattle.programs.proofs.Kept.{on_closed, on_unclosed, unclosed_store}
use Rattle.programs.proofs.dropping.make_store.Goals as goal

pub returns-in-Ok-clause-made : goal.returns-in-Ok-clause-made
returns-in-Ok-clause-made g c = on_closed c.finish-closed.result.0 (Finishes g.S.Stores c.in-Ok.made) _
    (λ ended. (c.in-Ok.made, c.in-Ok.ensures.made, ended))
    (c.finish-closed.result.1, c.finish-closed.ensures.finishes)

pub returns-in-Ok-clause-unmade : goal.returns-in-Ok-clause-unmade
returns-in-Ok-clause-unmade g c = on_unclosed c.finish-closed.result.0
    (Finishes g.S.Stores c.in-Ok.made)
    (FailsToMake g.S.Stores c.args.name.now c.args.rings c.args.hour)
    (λ why is ended. inr (c.in-Ok.made, c.in-Ok.ensures.made, is, ended))
    (c.finish-closed.result.1, c.finish-closed.ensures.finishes) c.finish-closed.ensures.fault

pub returns-in-Ok-clause-fault : goal.returns-in-Ok-clause-fault
returns-in-Ok-clause-fault g c = IfErr-weaker c.finish-closed.result.0 _ _ unclosed_store
    c.finish-closed.ensures.fault
