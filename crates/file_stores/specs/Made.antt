-- The store in a file as programs make it, and as it is closed then.
use Rattle.std.specs.Prelude.{◌⊎◌, Err, Ok, Option}
use Rattle.sqlite.specs.declared.error.Error.{Error}
use Rattle.sqlite_disk.specs.declared.Disk as disk
use Rattle.sqlite_disk.specs.declared.Files.{Files}
use Rattle.sqlite_store.specs.declared.store.FileStore.{FileStore}
use Rattle.sqlite_wal.specs.Recovery.{Image}
use Rattle.builder_store.specs.declared.fault.MakeFault.{MakeFault}
use Rattle.builder_store.specs.declared.over.FilesLeft.{FilesLeft}
use Rattle.ring_book.specs.Book.{Keeping}
use Rattle.store_rows.specs.Stands.{RingContent}
use Rattle.file_stores.specs.Closed.{EndsIn}
use Rattle.file_stores.specs.Opened.{IsMade}
use Rattle.file_stores.specs.Unopened.{IsNotMade}
use Rattle.program_stores.specs.declared.faults.ProgramFault.{ProgramFault}

module _ {K D : Type 0} (g : Keeping K) {d : disk.Ghosts D} (store : K → FileStore D d)
    (content : RingContent) where
  -- A store of this content was made, and closed, so that it is in files.
  pub record IsMadeInFiles : Type 0 where
    pub keeper : K
    pub made : IsMade g content keeper
    pub files : Files D
    pub ends : EndsIn g store keeper (Ok tt) (Ok files)

  -- A store of this content was made, and couldn't be closed, for this fault.
  pub record IsMadeUnclosed (why : ProgramFault) : Type 0 where
    pub keeper : K
    pub made : IsMade g content keeper
    pub rest : Error × FileStore D d
    pub ends : EndsIn g store keeper (Err why) (Err rest)

  -- A store of this content wasn't made in files that held this, for this fault, or couldn't be closed.
  abbrev pub IsNotInFiles : Image → ProgramFault → Type 0
  IsNotInFiles image why = ((cause : MakeFault) × (left : Option (FilesLeft D d))
      × IsNotMade image content why cause left) ⊎ IsMadeUnclosed why
