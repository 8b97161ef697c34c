use Rattle.programs.specs.Begun.{IsClosed, WasClosed}
use Rattle.programs.proofs.Lives.{one_more}
use Rattle.programs.specs.Left.{Closes}
use Rattle.programs.proofs.laws.programs_are_one_life.Goals as goal

pub returns-clause-done : goal.returns-clause-done
returns-clause-done g c = one_more g.S.Kept.Keeper g.S.Stores.begins (IsClosed (Closes g.S.Stores))
    g.met.S.Stores.opens_whole

pub returns-clause-failed : goal.returns-clause-failed
returns-clause-failed g c = one_more g.S.Kept.Keeper g.S.Stores.begins (WasClosed (Closes g.S.Stores))
    g.met.S.Stores.opens_whole
