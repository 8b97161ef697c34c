use Rattle.builder.proofs.OneLife.{one_life}
use Rattle.builder.proofs.laws.a_life_is_one_run.Goals as goal

pub returns : goal.returns
returns c = one_life
