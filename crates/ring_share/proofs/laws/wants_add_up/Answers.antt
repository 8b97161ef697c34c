use Rattle.ring_share.proofs.Determined.{wants_sum}
use Rattle.ring_share.proofs.laws.wants_add_up.Goals as goal

pub returns : goal.returns
returns c = wants_sum
