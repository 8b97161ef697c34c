-- Why a call on the tables fails.
use Rattle.std.specs.Prelude.{◌≡◌, ◌⊎◌, ℕ, Bool, true, false, IfErr, IsTrue, Result}
use Rattle.sqlite_disk.specs.Disk.{MoreFaults}
use Rattle.sqlite.specs.State.{HasCleanDisk, State}
use Rattle.sqlite.specs.declared.error.Error.{Error}
use Rattle.sqlite.specs.declared.error.Error.TheVariants.{SqliteFailure, Utf8Error}
use Rattle.sqlite.specs.declared.error.ErrorCode.TheVariants as code

-- The error tells that the disk failed or refused, or that it did so before and the connection is
-- shut.
abbrev pub tells_failure : Error → Bool
tells_failure (SqliteFailure code.SystemIoFailure) = true
tells_failure (SqliteFailure code.DatabaseCorrupt) = true
tells_failure (SqliteFailure code.DiskFull) = true
tells_failure (SqliteFailure code.Closed) = true
tells_failure _ = false

-- The error tells that what was read as a text is no UTF-8.
abbrev pub is_no_text : Error → Bool
is_no_text (Utf8Error column) = true
is_no_text _ = false

-- The disk has failed or refused since then, where it has done so this often by now; or the
-- connection was shut before.
abbrev pub HasFailedSince : State → ℕ → Type 0
HasFailedSince old faults = MoreFaults old.faults faults ⊎ (old.is_open ≡ false)

-- The disk failed or refused during the call, or the connection was shut before it.
abbrev pub HasFailed : State → State → Type 0
HasFailed old new = HasFailedSince old new.faults

-- A call that is told to have failed so did fail so.
abbrev pub FailsForCause : State → State → {A : Type 0} → Result A Error → Type 0
FailsForCause old new result = HasCleanDisk new → IfErr result (λ e. IsTrue (tells_failure e)
    → HasFailed old new)
