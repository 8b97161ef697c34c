use Rattle.programs.proofs.Lives.{failed_once}
use Rattle.programs.specs.Left.{Closes, FailsToMake, GivesNoText, GivesText, RefusesToOpen}
use Rattle.programs.proofs.laws.a_failed_program_is_one_run.Goals as goal

pub returns : goal.returns
returns g c = λ reader late_reader writer later before after. failed_once _ g.S.Kept.Keeper g.S.Stores.begins
    (Closes g.S.Stores) g.R.Read.remaining g.W.Write.contents c.calls_go_on.ensures.none
    c.run_goes_on.ensures reader late_reader writer later (GivesText g.S.Stores) (GivesNoText g.S.Stores)
    before after (RefusesToOpen g.S.Stores) (FailsToMake g.S.Stores)
