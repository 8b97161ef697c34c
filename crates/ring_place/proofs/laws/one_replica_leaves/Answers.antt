use Rattle.ring_place.proofs.Lawful.{one_leaves}
use Rattle.ring_place.proofs.laws.one_replica_leaves.Goals as goal

pub returns : goal.returns
returns c = one_leaves
