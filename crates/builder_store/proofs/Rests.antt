-- What is left of files over which no connection was made.
use Rattle.std.proofs.Common.{◌≡◌, ◌∙◌, None, Option, Some, ap, inl, inr, refl, subst, sym}
use Rattle.std.specs.Prelude.{◌⊎◌, IfSome, option_map}
use Rattle.sqlite_disk.specs.declared.Disk as disk
use Rattle.sqlite_disk.specs.declared.Files.{Files}
use Rattle.sqlite_store.specs.declared.store.FileStore.{FileStore}
use Rattle.sqlite_trees.specs.declared.error.StoreError.{StoreError}
use Rattle.sqlite_trees.specs.declared.error.StoreError.TheVariants as stored
use Rattle.sqlite_wal.specs.Recovery.{Image}
use Rattle.sqlite.specs.Files.{FailsToOpenFiles, HoldsDatabase, image_of}
use Rattle.sqlite.specs.Held.{Held}
use Rattle.sqlite.specs.State.{store_error}
use Rattle.sqlite.specs.declared.error.Error.{Error}
use Rattle.sqlite.specs.declared.error.Error.TheVariants.{SqliteFailure}
use Rattle.sqlite.specs.declared.error.ErrorCode.TheVariants as code
use Rattle.sqlite.specs.declared.file.Leftover.{Leftover}
use Rattle.store_rows.specs.RingRows.{NamedRings}
use Rattle.builder_store.specs.Faults.{file_fault}
use Rattle.builder_store.specs.Left.{AreUnopened, HoldsNoDatabase, IfConnected, IfUnconnected}
use Rattle.builder_store.specs.Left.{IsConnected, IsMadeOfConnection, IsOfConnection}
use Rattle.builder_store.specs.Making.{IsFailure, IsForeign, IsJudgement, WritesNothing}
use Rattle.builder_store.specs.Opening.{IsBadStore, TellsOpenFault}
use Rattle.builder_store.proofs.Judged.{files_of_connection}
use Rattle.builder_store.specs.declared.fault.FileFault.{FileFault}
use Rattle.builder_store.specs.declared.fault.FileFault.TheVariants as file
use Rattle.builder_store.specs.declared.fault.MakeFault.{MakeFault}
use Rattle.builder_store.specs.declared.fault.MakeFault.TheVariants as making
use Rattle.builder_store.specs.declared.over.FilesLeft.{FilesLeft}
use Rattle.builder_store.specs.declared.over.FilesLeft.TheVariants as left

-- an error of files that were not opened is told so
pub told_unopened : (error : Error) → (error ≡ SqliteFailure code.CannotOpen)
    ⊎ ((error ≡ SqliteFailure code.OutOfMemory) ⊎ (error ≡ SqliteFailure code.DatabaseBusy))
    → AreUnopened (file_fault error)
told_unopened error kinds = elim kinds [
  | inl is ↦ subst (λ e. AreUnopened (file_fault e)) (sym is) tt
  | inr more ↦ elim more [
    | inl is ↦ subst (λ e. AreUnopened (file_fault e)) (sym is) tt
    | inr is ↦ subst (λ e. AreUnopened (file_fault e)) (sym is) tt
  ]
]

-- that fault speaks of no connection
pub unopened_apart : (fault : FileFault) → AreUnopened fault → IsOfConnection fault → ⊥
unopened_apart file.Busy is of = of
unopened_apart file.CannotOpen is of = of
unopened_apart file.NoMemory is of = of
unopened_apart file.Store is of = is
unopened_apart file.NoDatabase is of = is
unopened_apart file.Damaged is of = is
unopened_apart (file.Opening why) is of = is

-- and one that judges what is there speaks of one
pub bad_of_connection : (fault : FileFault) → IsBadStore fault → IsOfConnection fault
bad_of_connection (file.Opening why) is = tt
bad_of_connection file.Busy is = is
bad_of_connection file.CannotOpen is = is
bad_of_connection file.NoMemory is = is
bad_of_connection file.Store is = is
bad_of_connection file.NoDatabase is = is
bad_of_connection file.Damaged is = is

-- and so does one that tells of the disk under it
pub fault_of_connection : (fault : FileFault) → TellsOpenFault fault → IsOfConnection fault
fault_of_connection (file.Opening why) is = tt
fault_of_connection file.Busy is = is
fault_of_connection file.CannotOpen is = is
fault_of_connection file.NoMemory is = is
fault_of_connection file.Store is = is
fault_of_connection file.NoDatabase is = is
fault_of_connection file.Damaged is = is

pub failure_of_connection : (fault : MakeFault) → IsFailure fault → IsMadeOfConnection fault
failure_of_connection making.PathTaken is = is
failure_of_connection making.Taken is = tt
failure_of_connection making.ForeignText is = is
failure_of_connection (making.Opening why) is = fault_of_connection why is

pub judged_of_connection : (fault : MakeFault) → IsJudgement fault → IsMadeOfConnection fault
judged_of_connection making.PathTaken is = is
judged_of_connection making.Taken is = tt
judged_of_connection making.ForeignText is = is
judged_of_connection (making.Opening why) is = files_of_connection why is

-- where a connection was made, nothing is written only where something was there, and no text is
-- told as foreign
pub only_taken : (fault : MakeFault) → WritesNothing fault → IsMadeOfConnection fault
    → fault ≡ making.Taken
only_taken making.PathTaken none is = absurd is
only_taken making.Taken none is = refl
only_taken making.ForeignText none is = absurd is
only_taken (making.Opening why) none is = absurd none

pub no_foreign : (rings : NamedRings) (fault : MakeFault) → IsMadeOfConnection fault
    → IsForeign rings fault
no_foreign rings fault is = λ told. absurd (subst IsMadeOfConnection told is)

-- files are told to be no database for one of two errors
apart : (error why : Error) → error ≡ why → file_fault error ≡ file.NoDatabase
    → file_fault why ≡ file.NoDatabase
apart error why is told = sym (ap file_fault is) ∙ told

stored_apart : (kind : StoreError) → file_fault (store_error kind) ≡ file.NoDatabase → ⊥
stored_apart stored.OutOfMemory told = let h : file.NoMemory ≡ file.NoDatabase = told in cc
stored_apart stored.Io told = let h : file.Store ≡ file.NoDatabase = told in cc
stored_apart stored.Corrupt told = let h : file.Damaged ≡ file.NoDatabase = told in cc
stored_apart stored.Full told = let h : file.Store ≡ file.NoDatabase = told in cc
stored_apart stored.Broken told = let h : file.Store ≡ file.NoDatabase = told in cc
stored_apart stored.Unstorable told = let h : file.Store ≡ file.NoDatabase = told in cc

module _ {D : Type 0} {g : disk.Ghosts D} where
  -- and then they hold none
  pub told_none : (files : Files D) (rest : Leftover D g) (error : Error) (image : Image)
      → image_of g files ≡ image → FailsToOpenFiles files rest error
      → file_fault error ≡ file.NoDatabase → HoldsNoDatabase image
  told_none files rest error image held failed told = elim failed [
    | inl is ↦ absurd (stored_apart stored.OutOfMemory (apart error _ is told))
    | inr more ↦ elim more [
      | inl none ↦ λ db holds. none.1 (inl (
        db,
        subst (λ i. HoldsDatabase i db) (sym held) holds,
      ))
      | inr more ↦ elim more [
        | inl is ↦ absurd (stored_apart _ (apart error _ is.0 told))
        | inr is ↦ absurd (stored_apart stored.Full (apart error _ is.0 told))
      ]
    ]
  ]

  pub none_left : (rest : Option (Leftover D g)) → option_map left.Files rest ≡ None → rest ≡ None
  none_left None is = refl
  none_left (Some rest) is = cc

  pub none_connected : (rest : Option (Leftover D g)) → IsConnected (option_map left.Files rest) → ⊥
  none_connected None is = is
  none_connected (Some rest) is = is

  pub rest_left : (rest : Option (Leftover D g)) (P Q : Leftover D g → Type 0)
      → ((it : Leftover D g) → P it → Q it) → IfSome rest P
      → IfUnconnected (option_map left.Files rest) Q
  rest_left None P Q each is = tt
  rest_left (Some rest) P Q each is = each rest is

  -- where no connection is left, whatever is said of one holds
  pub not_connected : (rest : Option (FilesLeft D g)) (P : Held (FileStore D g) → Type 0)
      → (IsConnected rest → ⊥) → IfConnected rest P
  not_connected None P none = tt
  not_connected (Some (left.Connection conn)) P none = absurd (none tt)
  not_connected (Some (left.Files rest)) P none = tt
