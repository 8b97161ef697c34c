use Rattle.std.proofs.Common.{rules}
use Rattle.ring_model.proofs.ring.Ring.version.Goals as goal

pub returns : goal.returns
returns c = search rules
