-- What an error of the database is told as, where no connection is made over files.
use Rattle.sqlite.specs.declared.error.Error.{Error}
use Rattle.sqlite.specs.declared.error.Error.TheVariants.{SqliteFailure}
use Rattle.sqlite.specs.declared.error.ErrorCode.TheVariants as code
use Rattle.builder_store.specs.declared.fault.FileFault.{FileFault}
use Rattle.builder_store.specs.declared.fault.FileFault.TheVariants as file

-- The files may be open elsewhere, not there, no database, or damaged; memory was wanted, or their
-- disk failed or refused.
abbrev pub file_fault : Error → FileFault
file_fault (SqliteFailure code.DatabaseBusy) = file.Busy
file_fault (SqliteFailure code.CannotOpen) = file.CannotOpen
file_fault (SqliteFailure code.NotADatabase) = file.NoDatabase
file_fault (SqliteFailure code.DatabaseCorrupt) = file.Damaged
file_fault (SqliteFailure code.OutOfMemory) = file.NoMemory
file_fault _ = file.Store
