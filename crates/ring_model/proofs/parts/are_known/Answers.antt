use Rattle.std.proofs.Common.{rules}
use Rattle.ring_model.proofs.parts.are_known.Goals as goal

pub returns : goal.returns
returns c = search rules
