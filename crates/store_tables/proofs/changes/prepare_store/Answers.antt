use Rattle.std.proofs.Common.{rules}
use Rattle.store_tables.proofs.Living.{stored_as}
use Rattle.store_tables.proofs.changes.prepare_store.Goals as goal

pub returns-clause-commits : goal.returns-clause-commits
returns-clause-commits g c = search (rules, stored_as)
