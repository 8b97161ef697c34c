use Rattle.std.proofs.Common.{arith}
use Rattle.std.proofs.lemmas.Grind.{common_steps}
use Rattle.ring_place.proofs.homes.home_crowds.Goals as goal

pub loop-partition-preserved : goal.loop-partition-preserved
loop-partition-preserved c = grind (arith, common_steps)

pub returns : goal.returns
returns c = grind (arith, common_steps)
