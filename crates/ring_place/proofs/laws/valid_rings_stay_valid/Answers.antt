use Rattle.ring_place.proofs.ValidAfter.{stays_valid}
use Rattle.ring_place.proofs.laws.valid_rings_stay_valid.Goals as goal

pub returns : goal.returns
returns c = stays_valid
