use Rattle.ring_place.proofs.Lawful.{lawful}
use Rattle.ring_place.proofs.laws.a_rebalance_is_lawful.Goals as goal

pub returns : goal.returns
returns c = lawful
