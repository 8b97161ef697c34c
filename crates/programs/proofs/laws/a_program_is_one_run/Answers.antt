use Rattle.programs.proofs.Lives.{done_once, refused_once}
use Rattle.programs.specs.Left.{Closes, GivesNoText, GivesText, MakesStore}
use Rattle.programs.proofs.laws.a_program_is_one_run.Goals as goal

pub returns-clause-done : goal.returns-clause-done
returns-clause-done g c = λ reader late_reader writer later before after. done_once _ g.S.Kept.Keeper
    g.S.Stores.begins (Closes g.S.Stores) g.R.Read.remaining g.W.Write.contents
    c.calls_go_on.ensures.none c.run_goes_on.ensures reader late_reader writer later
    (GivesText g.S.Stores) (GivesNoText g.S.Stores) before after (MakesStore g.S.Stores)

pub returns-clause-refused : goal.returns-clause-refused
returns-clause-refused g c = λ reader late_reader writer later before after. refused_once _ g.S.Kept.Keeper
    g.S.Stores.begins (Closes g.S.Stores) g.R.Read.remaining g.W.Write.contents
    c.calls_go_on.ensures.none c.run_goes_on.ensures reader late_reader writer later
    (GivesText g.S.Stores) (GivesNoText g.S.Stores) before after (MakesStore g.S.Stores)
