use Rattle.std.proofs.Common.{rules}
use Rattle.builder_store.proofs.over.file_fault.Goals as goal

pub returns-in-SqliteFailure-DatabaseBusy-clause-which :
    goal.returns-in-SqliteFailure-DatabaseBusy-clause-which
returns-in-SqliteFailure-DatabaseBusy-clause-which c = search rules
