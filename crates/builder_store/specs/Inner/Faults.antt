-- What an error of a connection is told as.
use Rattle.std.specs.Prelude.{cond}
use Rattle.sqlite.specs.declared.error.Error.{Error}
use Rattle.sqlite.specs.declared.error.Error.TheVariants.{SqliteFailure, Utf8Error}
use Rattle.sqlite.specs.declared.error.ErrorCode.TheVariants as code
use Rattle.store_tables.specs.Failing.{tells_failure}
use Rattle.builder_store.specs.declared.fault.OpenFault.{OpenFault}
use Rattle.builder_store.specs.declared.fault.OpenFault.TheVariants as opening

-- Memory was wanted, its disk gave back what is no page, failed or was shut, or a statement was
-- refused.
abbrev pub opening_fault : Error → OpenFault
opening_fault (SqliteFailure code.OutOfMemory) = opening.NoMemory
opening_fault (SqliteFailure code.DatabaseCorrupt) = opening.Damaged
opening_fault error = cond (tells_failure error) opening.Store opening.Refused

-- A row's text is none, or as above.
abbrev pub reading_fault : Error → OpenFault
reading_fault (Utf8Error column) = opening.BadTexts
reading_fault error = opening_fault error
