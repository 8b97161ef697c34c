use Rattle.std.proofs.Common.{arith}
use Rattle.std.proofs.lemmas.Grind.{elements}
use Rattle.ring_share.proofs.apart.first_sharing.Goals as goal

pub returns-then-shares : goal.returns-then-shares
returns-then-shares c = grind (arith, elements)

pub loop-other-preserved : goal.loop-other-preserved
loop-other-preserved c = grind (arith, elements)
