use Rattle.std.proofs.Common.{rules}
use Rattle.store_tables.proofs.changes.apply_one.Goals as goal

pub returns-in-AddPart-clause-writes : goal.returns-in-AddPart-clause-writes
returns-in-AddPart-clause-writes g c = search rules
