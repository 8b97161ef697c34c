-- What a reader and a writer tell of their faults.
use Rattle.std.specs.Prelude.{◌≡◌, IsTrue, ℕ, ◌+◌, ◌-◌, ◌^◌, min, MatchResult, Result}
use Rattle.byte_streams.specs.declared.counted.CountedReader.{CountedReader}
use Rattle.byte_streams.specs.declared.counted.CountedWriter.{CountedWriter}
use Rattle.byte_streams.specs.declared.counted.WholeReader.{WholeReader}
use Rattle.byte_streams.specs.declared.fault.StreamFault.{StreamFault}
use Rattle.byte_streams.specs.declared.fault.StreamFault.TheVariants.{ReadFailed, WriteFailed}
use Rattle.byte_streams.specs.declared.fault.StreamFault.TheVariants.{NoMemory}

-- the reader that is counted
abbrev pub reader_of : {R : Type 0} → CountedReader R → R
reader_of reader = reader.inner

-- how often the reader has failed
abbrev pub read_faults : {R : Type 0} → CountedReader R → ℕ
read_faults reader = reader.faults

-- how often the reader may still be asked
abbrev pub reads_left : {R : Type 0} → CountedReader R → ℕ
reads_left reader = reader.reads_left

-- the counted reader of what is read to its end
abbrev pub counted_of : {R : Type 0} → WholeReader R → CountedReader R
counted_of reader = reader.counted

-- the writer that is counted
abbrev pub writer_of : {W : Type 0} → CountedWriter W → W
writer_of writer = writer.inner

-- how often the writer has failed
abbrev pub write_faults : {W : Type 0} → CountedWriter W → ℕ
write_faults writer = writer.faults

-- how often the writer may still be called
abbrev pub calls_left : {W : Type 0} → CountedWriter W → ℕ
calls_left writer = writer.calls_left

-- nothing was written since the last flush that succeeded
abbrev pub IsFlushed : {W : Type 0} → CountedWriter W → Type 0
IsFlushed writer = IsTrue writer.is_flushed

-- a count with one more fault, which stops at 2^64 - 1
abbrev pub one_more : ℕ → ℕ
one_more count = min (count + 1) (2 ^ 64 - 1)

-- The count stays where a call succeeds, and has one more fault where it fails.
abbrev pub Counts : {A E : Type 0} → ℕ → ℕ → Result A E → Type 0
Counts old new result = MatchResult result (λ _. new ≡ old) (λ _. new ≡ one_more old)

-- The fault of a call that only reads has its cause: the reader failed once more exactly at
-- ReadFailed.
abbrev pub IsReadFault : {R : Type 0} → CountedReader R → CountedReader R → StreamFault → Type 0
IsReadFault r s ReadFailed = read_faults s ≡ one_more (read_faults r)
IsReadFault r s WriteFailed = ⊥
IsReadFault r s NoMemory = read_faults s ≡ read_faults r

-- Neither the reader nor the writer has failed again.
abbrev pub NoneFailed : {R W : Type 0} → CountedReader R → CountedReader R → CountedWriter W →
    CountedWriter W
    → Type 0
NoneFailed r s w x = (read_faults s ≡ read_faults r) × (write_faults x ≡ write_faults w)

-- The fault has its cause: the reader failed once more exactly at ReadFailed, the writer exactly at
-- WriteFailed.
abbrev pub IsCaused : {R W : Type 0} → CountedReader R → CountedReader R → CountedWriter W →
    CountedWriter W
    → StreamFault → Type 0
IsCaused r s w x ReadFailed = (read_faults s ≡ one_more (read_faults r)) ×
    (write_faults x ≡ write_faults w)
IsCaused r s w x WriteFailed = (read_faults s ≡ read_faults r) ×
    (write_faults x ≡ one_more (write_faults w))
IsCaused r s w x NoMemory = NoneFailed r s w x

-- A call that fails has its cause in the counts, and one that succeeds leaves them.
abbrev pub FailsWithCause : {R W A : Type 0} → CountedReader R → CountedReader R → CountedWriter W →
    CountedWriter W
    → Result A StreamFault → Type 0
FailsWithCause r s w x result = MatchResult result (λ _. NoneFailed r s w x) (IsCaused r s w x)

-- Everything that was written was flushed, unless a write or a flush failed or nothing was begun.
abbrev pub LeavesFlushed : {W A : Type 0} → CountedWriter W → Result A StreamFault → Type 0
LeavesFlushed writer result = MatchResult result (λ _. IsFlushed writer)
    (λ fault. fault ≡ ReadFailed → IsFlushed writer)
