use Rattle.std.proofs.Common.{arith}
use Rattle.std.proofs.lemmas.Grind.{common_steps}
use Rattle.store_rows.proofs.differences.push_new_ring.Goals as goal

pub returns : goal.returns
returns c = grind (arith, common_steps)
