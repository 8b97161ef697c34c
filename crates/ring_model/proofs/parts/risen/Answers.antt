use Rattle.std.proofs.Common.{rules}
use Rattle.ring_model.proofs.parts.risen.Goals as goal

pub returns-else-version-eq4294967295 : goal.returns-else-version-eq4294967295
returns-else-version-eq4294967295 c = search rules

pub returns-then-version-eq4294967295 : goal.returns-then-version-eq4294967295
returns-then-version-eq4294967295 c = search rules
