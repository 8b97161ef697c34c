use Rattle.std.proofs.Common.{rules}
use Rattle.ring_share.proofs.apart.tier_codes.Goals as goal

pub loop-place-preserved : goal.loop-place-preserved
loop-place-preserved c = search rules
