use Rattle.programs.proofs.ProgramLives.{one_life_of_programs, valid_from_nothing}
use Rattle.programs.specs.Left.{Closes}
use Rattle.programs.proofs.laws.all_programs_are_one_run.Goals as goal

pub returns-clause-one : goal.returns-clause-one
returns-clause-one g c = one_life_of_programs g.S.Kept.Keeper g.S.Stores.begins (Closes g.S.Stores)
    g.met.S.Stores.opens_whole

pub returns-clause-valid : goal.returns-clause-valid
returns-clause-valid g c = valid_from_nothing g.S.Kept.Keeper g.S.Stores.begins (Closes g.S.Stores)
    g.met.S.Stores.opens_whole
