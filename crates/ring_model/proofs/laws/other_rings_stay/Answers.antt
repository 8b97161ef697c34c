use Rattle.ring_model.proofs.ByName.{ring_at-with_other}
use Rattle.ring_model.proofs.laws.other_rings_stay.Goals as goal

pub returns : goal.returns
returns c = ring_at-with_other
