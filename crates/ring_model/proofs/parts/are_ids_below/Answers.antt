use Rattle.std.proofs.Common.{rules}
use Rattle.ring_model.proofs.parts.are_ids_below.Goals as goal

pub returns : goal.returns
returns c = search rules
