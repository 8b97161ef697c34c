use Rattle.ring_share.proofs.Determined.{same_wants}
use Rattle.ring_share.proofs.laws.wants_are_determined.Goals as goal

pub returns : goal.returns
returns c = same_wants
