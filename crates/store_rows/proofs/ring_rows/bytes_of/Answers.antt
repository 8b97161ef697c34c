use Rattle.std.proofs.Common.{arith}
use Rattle.std.proofs.lemmas.Grind.{common_steps}
use Rattle.store_rows.proofs.ring_rows.bytes_of.Goals as goal

pub loop-device-preserved : goal.loop-device-preserved
loop-device-preserved c = grind (arith, common_steps)

pub returns : goal.returns
returns c = grind (arith, common_steps)
