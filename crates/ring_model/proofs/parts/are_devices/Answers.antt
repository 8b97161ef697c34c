use Rattle.std.proofs.Common.{rules}
use Rattle.ring_model.proofs.parts.are_devices.Goals as goal

pub returns-then-are_ids_rising : goal.returns-then-are_ids_rising
returns-then-are_ids_rising c = search rules
