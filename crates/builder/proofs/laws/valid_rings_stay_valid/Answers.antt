use Rattle.builder.proofs.ValidRings.{stay_valid}
use Rattle.builder.proofs.laws.valid_rings_stay_valid.Goals as goal

pub returns : goal.returns
returns c = stay_valid
