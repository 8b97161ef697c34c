use Rattle.std.proofs.Common.{rules}
use Rattle.builder_store.proofs.adopting.fault_of.Goals as goal

pub returns-in-SqliteFailure-DatabaseCorrupt-clause-which :
    goal.returns-in-SqliteFailure-DatabaseCorrupt-clause-which
returns-in-SqliteFailure-DatabaseCorrupt-clause-which c = search rules

pub returns-in_default-clause-which : goal.returns-in_default-clause-which
returns-in_default-clause-which c = search rules

pub returns-in_default-clause-failed : goal.returns-in_default-clause-failed
returns-in_default-clause-failed c = λ e. absurd e
