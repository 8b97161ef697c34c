use Rattle.std.proofs.Common.{rules}
use Rattle.ring_place.proofs.gather.is_recent.Goals as goal

pub returns-in-Some : goal.returns-in-Some
returns-in-Some c = search rules
