use Rattle.std.proofs.Common.{arith}
use Rattle.std.proofs.lemmas.Grind.{common_steps}
use Rattle.ring_place.proofs.gather.locks.Goals as goal

pub loop-moved-preserved : goal.loop-moved-preserved
loop-moved-preserved c = grind (arith, common_steps)

pub returns : goal.returns
returns c = grind (arith, common_steps)
