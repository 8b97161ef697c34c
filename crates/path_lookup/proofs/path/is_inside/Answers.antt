use Rattle.std.proofs.Common.{rules}
use Rattle.path_lookup.proofs.path.is_inside.Goals as goal

pub returns-in-None-Some : goal.returns-in-None-Some
returns-in-None-Some c = search rules
