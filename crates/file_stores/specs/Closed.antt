-- The store in a file as programs close it.
use Rattle.std.specs.Prelude.{◌≡◌, Err, Ok, Result}
use Rattle.sqlite.specs.declared.error.Error.{Error}
use Rattle.sqlite.specs.declared.error.Error.TheVariants.{SqliteFailure}
use Rattle.sqlite.specs.declared.error.ErrorCode.TheVariants.{OutOfMemory}
use Rattle.sqlite_disk.specs.declared.Disk as disk
use Rattle.sqlite_disk.specs.declared.Files.{Files}
use Rattle.sqlite_store.specs.FileStore.{view}
use Rattle.sqlite_store.specs.declared.store.FileStore.{FileStore}
use Rattle.sqlite_trees.specs.View.{IsClean}
use Rattle.sqlite_trees.specs.declared.store.Store.{Ghosts}
use Rattle.sqlite_wal.specs.Reads.{AreClean}
use Rattle.builder_store.specs.Closing.{AreFilesOf, AreLeftWith, IsUnclosed}
use Rattle.builder_store.specs.declared.keeper.SqlKeeper.{SqlKeeper}
use Rattle.request_book.specs.Keeper.{LeavesOnly}
use Rattle.ring_book.specs.Book.{Keeping}
use Rattle.program_stores.specs.Stores.{Closing}
use Rattle.program_stores.specs.declared.faults.ProgramFault.{ProgramFault}
use Rattle.program_stores.specs.declared.faults.ProgramFault.TheVariants as fault

-- the store of a keeper
abbrev pub store_of_keeper : {S : Type 0} {g : Ghosts S} → SqlKeeper S g → S
store_of_keeper keeper = keeper.conn.store

-- what is told where a store couldn't be closed, for this error: want of memory, where that was it
abbrev pub close_fault : Error → ProgramFault
close_fault (SqliteFailure OutOfMemory) = fault.NoMemory
close_fault _ = fault.StoreFault

-- A keeper was closed. Where its disk returned what was written and its store had not failed, a
-- crash leaves what it held and nothing else.
pub record EndsSettled {K : Type 0} (g : Keeping K) (keeper : K) : Type 0 where
  pub left : g.sound keeper → g.fault_count keeper ≡ 0 →
      LeavesOnly (g.may_leave keeper) (g.content keeper)

-- A keeper over this store was closed.
module _ {K D : Type 0} (g : Keeping K) {d : disk.Ghosts D} (store : FileStore D d) (keeper : K) where
  -- It is in these files, which are the store's as it was closed. Where the store had not failed and
  -- its disk returned what was written, an opening of the files finds what the keeper held and
  -- nothing else, also after a crash.
  pub record IsInFiles (files : Files D) : Type 0 where
    pub are : AreFilesOf store files
    pub hold : g.fault_count keeper ≡ 0 → AreClean d files.log files.db →
        AreLeftWith d files (g.content keeper)

  -- It couldn't be closed, for this error, which is told, and the store is given back.
  -- Where it had not failed and its disk returned what was written, the error has a cause, and a
  -- crash leaves nothing that it could not leave before.
  pub record IsStillOpen (why : ProgramFault) (error : Error) (last : FileStore D d) : Type 0 where
    pub told : why ≡ close_fault error
    pub unclosed : g.fault_count keeper ≡ 0 → IsClean (view last) → IsUnclosed store last error

  -- That was answered, and its files are left, or the store: that it was done is answered exactly
  -- where it is in its files.
  abbrev pub LeavesClosed : Closing → Result (Files D) (Error × FileStore D d) → Type 0
  LeavesClosed (Ok done) (Ok files) = IsInFiles files
  LeavesClosed (Err why) (Err e) = IsStillOpen why e.0 e.1
  LeavesClosed answer left = ⊥

-- A keeper was closed, which answered so, and its files are left, or its store.
pub record EndsIn {K D : Type 0} (g : Keeping K) {d : disk.Ghosts D} (store : K → FileStore D d)
    (keeper : K) (answer : Closing) (left : Result (Files D) (Error × FileStore D d)) : Type 0 where
  pub settled : EndsSettled g keeper
  pub closed : LeavesClosed g (store keeper) keeper answer left
