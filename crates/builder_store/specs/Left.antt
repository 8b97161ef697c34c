-- What is left where the store in files isn't opened or made.
use Rattle.std.specs.Prelude.{◌≡◌, Option, Some, ⊤}
use Rattle.sqlite_disk.specs.declared.Disk as disk
use Rattle.sqlite_disk.specs.declared.Files.{Files}
use Rattle.sqlite_store.specs.declared.store.FileStore.{FileStore}
use Rattle.sqlite_trees.specs.Tree.{Trees}
use Rattle.sqlite_wal.specs.Recovery.{Image}
use Rattle.sqlite.specs.Files.{FailsToOpenFiles, HoldsDatabase, IsCleanLeft, LeavesFiles, image_of}
use Rattle.sqlite.specs.Held.{Held}
use Rattle.sqlite.specs.declared.error.Error.{Error}
use Rattle.sqlite.specs.declared.file.Leftover.{Leftover}
use Rattle.builder_store.specs.Faults.{file_fault}
use Rattle.builder_store.specs.declared.fault.FileFault.{FileFault}
use Rattle.builder_store.specs.declared.fault.FileFault.TheVariants as file
use Rattle.builder_store.specs.declared.fault.MakeFault.{MakeFault}
use Rattle.builder_store.specs.declared.fault.MakeFault.TheVariants as making
use Rattle.builder_store.specs.declared.over.FilesLeft.{FilesLeft}
use Rattle.builder_store.specs.declared.over.FilesLeft.TheVariants as left

-- The fault tells that the files were not opened.
abbrev pub AreUnopened : FileFault → Type 0
AreUnopened file.Busy = ⊤
AreUnopened file.CannotOpen = ⊤
AreUnopened file.NoMemory = ⊤
AreUnopened _ = ⊥

-- The fault tells why what the files hold isn't opened, after a connection was made over them.
abbrev pub IsOfConnection : FileFault → Type 0
IsOfConnection (file.Opening why) = ⊤
IsOfConnection _ = ⊥

-- The fault tells that nothing was opened: something is at the path, the rings published a foreign
-- text, or the files were not opened.
abbrev pub IsUntouched : MakeFault → Type 0
IsUntouched making.PathTaken = ⊤
IsUntouched making.ForeignText = ⊤
IsUntouched (making.Opening why) = AreUnopened why
IsUntouched making.Taken = ⊥

-- The fault tells why no store is made over a connection.
abbrev pub IsMadeOfConnection : MakeFault → Type 0
IsMadeOfConnection making.Taken = ⊤
IsMadeOfConnection (making.Opening why) = IsOfConnection why
IsMadeOfConnection making.PathTaken = ⊥
IsMadeOfConnection making.ForeignText = ⊥

-- Files that held this hold no database.
abbrev pub HoldsNoDatabase : Image → Type 0
HoldsNoDatabase image = (db : Trees) → HoldsDatabase image db → ⊥

module _ {D : Type 0} {g : disk.Ghosts D} where
  -- The connection is left, and this is so of it.
  abbrev pub IsConnectedAnd : Option (FilesLeft D g) → (Held (FileStore D g) → Type 0) → Type 0
  IsConnectedAnd (Some (left.Connection conn)) P = P conn
  IsConnectedAnd _ P = ⊥

  -- If the connection is left, this is so of it.
  abbrev pub IfConnected : Option (FilesLeft D g) → (Held (FileStore D g) → Type 0) → Type 0
  IfConnected (Some (left.Connection conn)) P = P conn
  IfConnected _ P = ⊤

  -- If files are left over which no connection was made, this is so of them.
  abbrev pub IfUnconnected : Option (FilesLeft D g) → (Leftover D g → Type 0) → Type 0
  IfUnconnected (Some (left.Files files)) P = P files
  IfUnconnected _ P = ⊤

  -- The connection is left.
  abbrev pub IsConnected : Option (FilesLeft D g) → Type 0
  IsConnected it = IsConnectedAnd it (λ conn. ⊤)

  -- Over files that held this no connection was made, for this fault, and this is left of them. It
  -- has a cause, unless the disk returned what was not written: they are told to be no database only
  -- where they hold none. They are left as an opening may leave them that failed.
  pub record IsUnconnected (image : Image) (fault : FileFault) (rest : Leftover D g) : Type 0 where
    pub files : Files D
    pub held : image_of g files ≡ image
    pub error : Error
    pub told : fault ≡ file_fault error
    pub cause : IsCleanLeft rest → FailsToOpenFiles files rest error
    pub none : IsCleanLeft rest → fault ≡ file.NoDatabase → HoldsNoDatabase image
    pub crash : IsCleanLeft rest → LeavesFiles files rest

  -- The same where a store was to be made.
  abbrev pub IsUnmadeOver : Image → MakeFault → Leftover D g → Type 0
  IsUnmadeOver image (making.Opening why) rest = IsUnconnected image why rest
  IsUnmadeOver image _ rest = ⊥
