use Rattle.std.proofs.Common.{arith}
use Rattle.std.proofs.lemmas.Grind.{common_steps}
use Rattle.ring_share.proofs.TierLists.{shared_read}
use Rattle.ring_share.proofs.tiers.has_shared.Goals as goal

pub returns-then-shares : goal.returns-then-shares
returns-then-shares c = grind (arith, common_steps, shared_read)

pub loop-place-preserved : goal.loop-place-preserved
loop-place-preserved c = grind (arith, common_steps, shared_read)
