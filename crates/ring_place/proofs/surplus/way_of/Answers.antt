use Rattle.std.proofs.Common.{arith}
use Rattle.std.proofs.lemmas.Grind.{elements}
use Rattle.ring_place.proofs.surplus.way_of.Goals as goal

pub has_beside-requires-clause-replica : goal.has_beside-requires-clause-replica
has_beside-requires-clause-replica c = grind (arith, elements)
