use Rattle.ring_place.proofs.Finishing.UnchangedRing.{at_rest}
use Rattle.ring_place.proofs.laws.unchanged_is_settled.Goals as goal

pub returns : goal.returns
returns c = at_rest
