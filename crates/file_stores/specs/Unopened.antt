-- Stores in files that are not opened or made.
use Rattle.std.specs.Prelude.{◌<◌, ◌≡◌, ◌↔◌, None, Option}
use Rattle.sqlite.specs.Files.{file_state}
use Rattle.sqlite.specs.Held.{Held}
use Rattle.sqlite.specs.State.{HasCleanDisk}
use Rattle.sqlite_disk.specs.declared.Disk as disks
use Rattle.sqlite_store.specs.declared.store.FileStore.{FileStore}
use Rattle.sqlite_trees.specs.Tree.{Trees}
use Rattle.sqlite_wal.specs.Recovery.{Image}
use Rattle.builder_store.specs.Left.{AreUnopened, IfConnected, IfUnconnected, IsConnected}
use Rattle.builder_store.specs.Left.{IsConnectedAnd, IsMadeOfConnection, IsOfConnection}
use Rattle.builder_store.specs.Left.{IsUnconnected, IsUnmadeOver, IsUntouched}
use Rattle.builder_store.specs.Making.{IsFailure, IsForeign, IsJudgement}
use Rattle.builder_store.specs.Opening.{HoldsBadTexts, HoldsNoStore, HoldsTables, IsBadStore, IsLeftOf}
use Rattle.builder_store.specs.Opening.{IsMadeOf, JudgesFileRows, Stands, TellsOpenFault}
use Rattle.builder_store.specs.declared.fault.FileFault.{FileFault}
use Rattle.builder_store.specs.declared.fault.FileFault.TheVariants as file
use Rattle.builder_store.specs.declared.fault.MakeFault.{MakeFault}
use Rattle.builder_store.specs.declared.fault.MakeFault.TheVariants as making
use Rattle.builder_store.specs.declared.fault.OpenFault.TheVariants as opening
use Rattle.builder_store.specs.declared.over.FilesLeft.{FilesLeft}
use Rattle.store_rows.specs.Stands.{RingContent}
use Rattle.program_stores.specs.declared.faults.ProgramFault.{ProgramFault}
use Rattle.program_stores.specs.declared.faults.ProgramFault.TheVariants as fault

-- What is told where the store in a file isn't opened: a bad store where what was read is none, and
-- else a fault of the store, as where the system refused or failed.
abbrev pub open_fault : FileFault → ProgramFault
open_fault file.Busy = fault.StoreFault
open_fault file.CannotOpen = fault.StoreFault
open_fault file.NoDatabase = fault.BadStore
open_fault file.Damaged = fault.BadStore
open_fault file.NoMemory = fault.NoMemory
open_fault file.Store = fault.StoreFault
open_fault (file.Opening opening.NoMemory) = fault.NoMemory
open_fault (file.Opening opening.Store) = fault.StoreFault
open_fault (file.Opening opening.Damaged) = fault.BadStore
open_fault (file.Opening opening.Refused) = fault.StoreFault
open_fault (file.Opening opening.BadRows) = fault.BadStore
open_fault (file.Opening opening.BadTexts) = fault.BadStore
open_fault (file.Opening opening.BadTables) = fault.BadStore

-- what is told where no store is made
abbrev pub make_fault : MakeFault → ProgramFault
make_fault making.PathTaken = fault.StoreFault
make_fault making.Taken = fault.StoreFault
make_fault making.ForeignText = fault.BadStore
make_fault (making.Opening cause) = open_fault cause

-- Where the disk under a connection over files that held this returned what was written, a crash
-- leaves the trees to which they recovered, or what is so made of these.
abbrev pub LeavesOr : {D : Type 0} {disk : disks.Ghosts D} → Image → (Trees → Trees → Type 0)
    → Held (FileStore D disk) → Type 0
LeavesOr image Makes conn = HasCleanDisk (file_state conn) → (db : Trees)
    → (file_state conn).may_leave db → IsLeftOf Makes image db

-- The connection is left, and its disk failed or refused, if it returned what was written.
abbrev pub ConnectionMetFaults : {D : Type 0} {disk : disks.Ghosts D} → Option (FilesLeft D disk) → Type 0
ConnectionMetFaults left = IsConnectedAnd left (λ conn. HasCleanDisk (file_state conn)
    → 0 < (file_state conn).faults)

-- A store in files that held this wasn't opened, for this cause, which is told, and this is left.
-- Nothing is left only where the files were not opened, and a connection exactly where one was made.
-- Where none was made, that has a cause, and they are told to be no database only where they hold
-- none; and they are told to hold bad tables or rows only where they hold no store, bad texts only
-- where a text in a store's tables is no UTF-8, and the store to have failed or to be damaged only
-- where their disk met a fault. A crash leaves what they recovered to or what an opening makes of it,
-- and where the rows or their texts are bad, what they recovered to. So it is if their disk returned
-- what was written.
pub record IsNotOpened {D : Type 0} {disk : disks.Ghosts D} (image : Image) (why : ProgramFault)
    (cause : FileFault) (left : Option (FilesLeft D disk)) : Type 0 where
  pub told : why ≡ open_fault cause
  pub unopened : left ≡ None → AreUnopened cause
  pub connected : IsOfConnection cause ↔ IsConnected left
  pub unconnected : IfUnconnected left (IsUnconnected image cause)
  pub bad : IsBadStore cause → IsConnectedAnd left (λ conn.
      HasCleanDisk (file_state conn) → HoldsNoStore image)
  pub texts : cause ≡ file.Opening opening.BadTexts → IsConnectedAnd left (λ conn.
      HasCleanDisk (file_state conn) → HoldsBadTexts image)
  pub failed : TellsOpenFault cause → ConnectionMetFaults left
  pub rows : JudgesFileRows cause → IsConnectedAnd left (LeavesOr image (λ _ _. ⊥))
  pub crash : IfConnected left (LeavesOr image IsMadeOf)

-- A store of this content wasn't made in files that held this, for this cause, which is told, and
-- this is left. Nothing is left only where nothing was opened, and a connection exactly where one was
-- made. Where none was made, that has a cause; tables are told to be there only where there are any,
-- and then a crash leaves what the files recovered to; and else it leaves that, or the store, which is
-- told to have failed or to be damaged only where its disk met a fault. What is there is never told as
-- bad. So it is if their disk returned what was written. A text is told as foreign only where the
-- rings published one that is not their own, and then nothing was opened.
pub record IsNotMade {D : Type 0} {disk : disks.Ghosts D} (image : Image) (content : RingContent)
    (why : ProgramFault) (cause : MakeFault) (left : Option (FilesLeft D disk)) : Type 0 where
  pub told : why ≡ make_fault cause
  pub unjudged : IsJudgement cause → ⊥
  pub foreign : IsForeign content.state cause
  pub unopened : cause ≡ making.ForeignText → left ≡ None
  pub untouched : left ≡ None → IsUntouched cause
  pub connected : IsMadeOfConnection cause ↔ IsConnected left
  pub unconnected : IfUnconnected left (IsUnmadeOver image cause)
  pub taken : cause ≡ making.Taken → IsConnectedAnd left (λ conn.
      HasCleanDisk (file_state conn) → HoldsTables image)
  pub failed : IsFailure cause → ConnectionMetFaults left
  pub stays : cause ≡ making.Taken → IsConnectedAnd left (LeavesOr image (λ _ _. ⊥))
  pub crash : IfConnected left (LeavesOr image (λ _ made. Stands made content))
