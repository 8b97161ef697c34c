-- What files hold once the store in them was closed.
use Rattle.std.specs.Prelude.{◌≡◌, ◌≤◌, ◌⊎◌, []}
use Rattle.sqlite_disk.specs.declared.Disk as disk
use Rattle.sqlite_disk.specs.declared.Files.{Files}
use Rattle.sqlite_disk.specs.Disk.{MoreFaults}
use Rattle.sqlite_trees.specs.Tree.{Trees}
use Rattle.sqlite_trees.specs.View.{Tells}
use Rattle.sqlite_trees.specs.declared.error.StoreError.{StoreError}
use Rattle.sqlite_store.specs.declared.store.FileStore.{FileStore}
use Rattle.sqlite_store.specs.FileStore.{blamed, faults, recovers}
use Rattle.sqlite_store.specs.FileStore.{files as store_files}
use Rattle.sqlite_wal.specs.Files.{outcomes}
use Rattle.sqlite_wal.specs.Recovery.{Image}
use Rattle.sqlite.specs.Files.{HoldsDatabase, image_of}
use Rattle.sqlite.specs.State.{store_error}
use Rattle.sqlite.specs.declared.error.Error.{Error}
use Rattle.sqlite.specs.declared.error.Error.TheVariants.{SqliteFailure}
use Rattle.sqlite.specs.declared.error.ErrorCode.TheVariants.{OutOfMemory}
use Rattle.store_rows.specs.Stands.{RingContent}
use Rattle.builder_store.specs.Opening.{IsOpenedAs, IsOpenedFrom}

-- Files that hold this hold a store of this content: an opening of its database finds it, and an
-- opening of the files finds no other.
pub record HoldsContent (image : Image) (content : RingContent) : Type 0 where
  pub database : ∥ ((db : Trees) × HoldsDatabase image db × IsOpenedAs db content) ∥₁
  pub only : (found : RingContent) → IsOpenedFrom image found → found ≡ content

-- So do they with the log beside the database file, and so does that file alone.
abbrev pub HoldsAlone : Image → RingContent → Type 0
HoldsAlone image content =
    HoldsContent image content × HoldsContent (record image { log = [] }) content

-- The store isn't closed, for this error, and is left so: memory was wanted, or its disk failed or
-- refused once more. Each call of the disk that fails is counted, and no other. A crash leaves
-- nothing that it could not leave before.
pub record IsUnclosed {D : Type 0} {g : disk.Ghosts D} (store last : FileStore D g) (error : Error)
    : Type 0 where
  pub counted : faults store ≤ faults last
  pub cause : (error ≡ SqliteFailure OutOfMemory) ⊎ MoreFaults (faults store) (faults last)
  pub named : (kind : StoreError) × (error ≡ store_error kind) × Tells (blamed last) kind
  pub crash : (db : Trees) → recovers last db → recovers store db

-- These are the files of that store as it is closed: each call of the disk that failed is counted,
-- and a crash leaves nothing that it could not leave before.
pub record AreFilesOf {D : Type 0} {g : disk.Ghosts D} (store : FileStore D g) (files : Files D) :
    Type 0 where
  pub last : FileStore D g
  pub same : store_files last ≡ (files.log, files.db)
  pub counted : faults store ≤ faults last
  pub crash : (db : Trees) → recovers last db → recovers store db

-- Files hold a store of this content, as they read now and after a crash.
pub record AreLeftWith {D : Type 0} (g : disk.Ghosts D) (files : Files D) (content : RingContent) :
    Type 0 where
  pub seen : HoldsAlone (image_of g files) content
  pub left : (image : Image) → outcomes g files.log files.db image → HoldsAlone image content
