use Rattle.std.proofs.Common.{arith}
use Rattle.std.proofs.lemmas.Grind.{common_steps}
use Rattle.ring_share.proofs.places.places_of.Goals as goal

pub loop-replica-preserved : goal.loop-replica-preserved
loop-replica-preserved c = grind (arith, common_steps)
