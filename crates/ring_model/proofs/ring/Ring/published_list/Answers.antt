use Rattle.std.proofs.Common.{rules}
use Rattle.ring_model.proofs.ring.Ring.published_list.Goals as goal

pub returns : goal.returns
returns c = search rules
