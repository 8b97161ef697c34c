use Rattle.builder.proofs.Functions.{step_is_one}
use Rattle.builder.proofs.laws.a_step_is_one.Goals as goal

pub returns : goal.returns
returns c = step_is_one
