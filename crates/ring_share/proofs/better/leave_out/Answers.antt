use Rattle.std.proofs.Common.{arith}
use Rattle.std.proofs.lemmas.Grind.{common_steps}
use Rattle.ring_share.proofs.better.leave_out.Goals as goal

pub overflow_sub-counts : goal.overflow_sub-counts
overflow_sub-counts c = grind (arith, common_steps)

pub returns : goal.returns
returns c = grind (arith, common_steps)
