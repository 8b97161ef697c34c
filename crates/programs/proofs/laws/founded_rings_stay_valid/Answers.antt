use Rattle.programs.proofs.ProgramLives.{valid_from_founded}
use Rattle.programs.specs.Left.{Closes, GivesText}
use Rattle.programs.proofs.laws.founded_rings_stay_valid.Goals as goal

pub returns : goal.returns
returns g c = valid_from_founded g.S.Kept.Keeper g.S.Stores.begins (Closes g.S.Stores)
    g.met.S.Stores.opens_whole (GivesText g.S.Stores)
