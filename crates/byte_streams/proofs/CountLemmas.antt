-- What the counts of a call and of what it calls have to do with each other.
use Rattle.std.proofs.Common.{◌≡◌, Result, Ok, Err}
use Rattle.std.specs.Prelude.{IfErr}
use Rattle.byte_streams.specs.Counted.{Counts, FailsWithCause, IsFlushed, LeavesFlushed}
use Rattle.byte_streams.specs.Counted.{read_faults, write_faults}
use Rattle.byte_streams.specs.declared.counted.CountedReader.{CountedReader}
use Rattle.byte_streams.specs.declared.counted.CountedWriter.{CountedWriter}
use Rattle.byte_streams.specs.declared.fault.StreamFault.{StreamFault}
use Rattle.byte_streams.specs.declared.fault.StreamFault.TheVariants.{ReadFailed, WriteFailed}
use Rattle.std.specs.Prelude.{OnOk}

-- a call that only writes
pub write_cause : {R W A : Type 0} (r s : CountedReader R) (w x : CountedWriter W)
    (result : Result A StreamFault)
    → read_faults s ≡ read_faults r → Counts (write_faults w) (write_faults x) result
    → IfErr result (λ fault. fault ≡ WriteFailed) → FailsWithCause r s w x result
write_cause r s w x (Ok value) same counts is = (same, counts)
write_cause r s w x (Err fault) same counts is = rw is (same, counts)

-- what only writes leaves the writer flushed where it succeeds
pub write_flushed : {W A : Type 0} (writer : CountedWriter W) (result : Result A StreamFault) →
    OnOk result (IsFlushed writer)
    → IfErr result (λ fault. fault ≡ WriteFailed) → LeavesFlushed writer result
write_flushed writer (Ok value) flushed is = flushed
write_flushed writer (Err fault) flushed is = λ read. let same : WriteFailed ≡ ReadFailed =
    rw is at read in cc
