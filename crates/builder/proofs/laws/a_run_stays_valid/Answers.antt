use Rattle.builder.proofs.Proper.{valid_run}
use Rattle.builder.proofs.laws.a_run_stays_valid.Goals as goal

pub returns : goal.returns
returns c = valid_run
