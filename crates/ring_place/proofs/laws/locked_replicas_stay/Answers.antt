use Rattle.ring_place.proofs.Lawful.{unlocked_leave}
use Rattle.ring_place.proofs.laws.locked_replicas_stay.Goals as goal

pub returns : goal.returns
returns c = unlocked_leave
