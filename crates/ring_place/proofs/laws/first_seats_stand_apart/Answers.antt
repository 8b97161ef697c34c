use Rattle.ring_place.proofs.Finishing.FirstApart.{first_apart}
use Rattle.ring_place.proofs.laws.first_seats_stand_apart.Goals as goal

pub returns : goal.returns
returns c = first_apart
