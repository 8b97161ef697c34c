use Rattle.builder.proofs.Safe.{valid_on_the_way}
use Rattle.builder.proofs.laws.valid_rings_stay_valid_in_a_run.Goals as goal

pub returns : goal.returns
returns c = valid_on_the_way
