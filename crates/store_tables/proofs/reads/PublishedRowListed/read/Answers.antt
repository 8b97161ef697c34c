use Rattle.std.proofs.Common.{rules}
use Rattle.store_tables.proofs.reads.PublishedRowListed.read.Goals as goal

pub returns-clause-entry : goal.returns-clause-entry
returns-clause-entry c = search rules
