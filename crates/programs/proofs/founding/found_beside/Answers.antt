use Rattle.std.proofs.Common.{◌∙◌, ap}
use Rattle.std.proofs.lemmas.Result.{IfErr-weaker}
use Rattle.programs.specs.Left.{Closes, FailsToMake}
use Rattle.programs.proofs.Foundings.{fails_over_nothing, fails_over_read}
use Rattle.programs.proofs.founding.found_beside.Goals.{in-Some+in_ok-found-in-Some, in-None}
use Rattle.programs.proofs.founding.found_beside.Goals as goal

pub returns-clause-failed : goal.returns-clause-failed
returns-clause-failed g c = elim c.match-ask.branch [
  | in-Some+in_ok-found-in-Some w ↦ rw w.in-Some.is (IfErr-weaker c.make_founded.result _ _
      (fails_over_read g.S.Kept.Keeper _ (Closes g.S.Stores) (FailsToMake g.S.Stores
      c.args.ask.now.new.now) _ c.args.terms c.args.snapshots.now
      (g.S.Stores.openings c.args.stores.now) (g.S.Stores.openings c.match-ask.stores)
      (g.S.Stores.openings c.make_founded.new.stores) c.match-ask.found.0 c.match-ask.found.1
      (rw w.stores-is w.read_store.ensures.opened)
      (rw w.found-is w.in_ok-found-in-Some.ensures.found)) c.make_founded.ensures.failed)
  | in-None w ↦ rw w.in-None.is (IfErr-weaker c.make_founded.result _ _
      (fails_over_nothing c.args.terms c.args.snapshots.now (FailsToMake g.S.Stores
      c.args.ask.now.new.now) (g.S.Stores.openings c.args.stores.now)
      (g.S.Stores.openings c.make_founded.new.stores) c.match-ask.found.0 c.match-ask.found.1
      (ap (λ f. f.0) w.found-is ∙ w.new.ensures) (ap (λ f. f.1) w.found-is))
      (rw w.stores-is at c.make_founded.ensures.failed))
]
