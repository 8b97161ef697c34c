use Rattle.std.proofs.Common.{rules}
use Rattle.ring_model.proofs.ring.Ring.next_id.Goals as goal

pub returns : goal.returns
returns c = search rules
