use Rattle.std.proofs.Common.{arith}
use Rattle.std.proofs.lemmas.Grind.{common_steps}
use Rattle.ring_share.proofs.wants.whole_shares.Goals as goal

pub open_share-requires-clause-light : goal.open_share-requires-clause-light
open_share-requires-clause-light c = grind (arith, common_steps)

pub loop-device-preserved : goal.loop-device-preserved
loop-device-preserved c = grind (arith, common_steps)

pub returns : goal.returns
returns c = grind (arith, common_steps)
