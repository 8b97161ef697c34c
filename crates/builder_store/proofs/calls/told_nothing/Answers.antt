use Rattle.std.proofs.Common.{rules}
use Rattle.builder_store.proofs.calls.told_nothing.Goals as goal

pub returns-clause-nothing : goal.returns-clause-nothing
returns-clause-nothing c = search rules

pub returns-clause-untold : goal.returns-clause-untold
returns-clause-untold c = search rules
