use Rattle.std.proofs.Common.{arith}
use Rattle.std.proofs.lemmas.Grind.{common_steps}
use Rattle.ring_place.proofs.gather.gather_at.Goals as goal

pub returns-then-not-may_lift-clause-others : goal.returns-then-not-may_lift-clause-others
returns-then-not-may_lift-clause-others c = grind (arith, common_steps)
