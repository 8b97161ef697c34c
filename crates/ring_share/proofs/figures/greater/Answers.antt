use Rattle.std.proofs.Common.{rules}
use Rattle.ring_share.proofs.figures.greater.Goals as goal

pub returns : goal.returns
returns c = search rules
