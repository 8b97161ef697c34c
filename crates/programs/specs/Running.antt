-- What the program `run` does to its streams.
use Rattle.std.specs.Prelude.{◌≡◌, ◌⊎◌, ℕ, List, Option}
use Rattle.byte_streams.specs.Counted.{IsCaused, IsFlushed, NoneFailed, reader_of, writer_of}
use Rattle.byte_streams.specs.declared.counted.CountedReader.{CountedReader}
use Rattle.byte_streams.specs.declared.counted.CountedWriter.{CountedWriter}
use Rattle.byte_streams.specs.declared.fault.StreamFault.{StreamFault}
use Rattle.byte_streams.specs.declared.fault.StreamFault.TheVariants as stream
use Rattle.builder.specs.Safety.{IsSafeRun}
use Rattle.builder.specs.declared.machine.RingMachine.{RingMachine}
use Rattle.line_stream.specs.Serving.{LinesServed, LinesStopped}
use Rattle.line_api.specs.Served.{ServesLines}
use Rattle.request_book.specs.Book.{Parts}
use Rattle.program_stores.specs.Faults.{IsCloseFault, IsStoreFault, stream_fault}
use Rattle.program_stores.specs.Stores.{Closing}
use Rattle.programs.specs.Begun.{FailedToClose, IsBegun}
use Rattle.programs.specs.Begun.{WasClosed}
use Rattle.program_stores.specs.declared.faults.ProgramFault.{ProgramFault}
use Rattle.ring_book.specs.Book.{Keeping}

-- The lines of a stream were answered by a book that was opened for them over a keeper that begins
-- so and is left so, and what the book was led to is a safe run.
module _ {K : Type 0} (g : Keeping K) (Begins Ends : K → Type 0) where
  -- All lines were answered, and so many there were.
  abbrev pub RanOver : Option (List ℕ) → Option (List ℕ) → Option (List ℕ) → ℕ → Type 0
  RanOver known before after count = (old new : Parts RingMachine K) × IsBegun Begins old
      × Ends new.keeper
      × LinesServed (ServesLines g) known before after old new
      count
      × (g.sound new.keeper → IsSafeRun old.machine.limits (g.content old.keeper)
      (g.content new.keeper))

  -- What a fault leaves; where there was no memory, neither stream was touched.
  abbrev pub StoppedOver : Option (List ℕ) → Option (List ℕ) → Option (List ℕ) → Option (List ℕ) →
      Type 0 → Type 0 → StreamFault → Type 0
  StoppedOver known left before after reader_stays writer_stays why =
      (old new : Parts RingMachine K) × IsBegun Begins old × Ends new.keeper
      × LinesStopped (ServesLines g) known left before after
      old new (reader_stays × writer_stays × (new ≡ old)) why
      × (g.sound new.keeper → IsSafeRun old.machine.limits (g.content old.keeper)
      (g.content new.keeper))

  module _ {R W : Type 0} (remaining : R → Option (List ℕ)) (contents : W → Option (List ℕ))
      (reader late_reader : CountedReader R) (writer late_writer : CountedWriter W) where
    -- Every line of a reader was answered on a writer and flushed, and neither failed.
    abbrev pub AnswersLines : Type 0
    AnswersLines = ((count : ℕ) × RanOver (remaining (reader_of reader))
        (contents (writer_of writer)) (contents (writer_of late_writer)) count)
        × NoneFailed reader late_reader writer late_writer × IsFlushed late_writer

    -- This fault of a stream ended it, with its cause, and what was answered before it was written.
    abbrev pub StopsLines : StreamFault → Type 0
    StopsLines why = StoppedOver (remaining (reader_of reader)) (remaining (reader_of late_reader))
        (contents (writer_of writer)) (contents (writer_of late_writer)) (late_reader ≡ reader)
        (late_writer ≡ writer) why
        × IsCaused reader late_reader writer late_writer why × (why ≡ stream.ReadFailed
        → IsFlushed late_writer)

-- Keepers of stores are these, begin so, and end so with what closing them answers.
module _ {K : Type 0} (g : Keeping K) (Begins : K → Type 0) (Ends : K → Closing → Type 0)
    {R W : Type 0} (remaining : R → Option (List ℕ)) (contents : W → Option (List ℕ))
    (reader late_reader : CountedReader R) (writer late_writer : CountedWriter W) where
  -- This fault ended it: one of a stream; or the store wasn't opened, for that fault, and neither
  -- stream was touched; or every line was answered, and closing the store failed so.
  abbrev pub FailsLines : (ProgramFault → Type 0) → ProgramFault → Type 0
  FailsLines Refuses why = ((cause : StreamFault) × (why ≡ stream_fault cause)
      × StopsLines g Begins (WasClosed Ends) remaining contents reader late_reader writer late_writer
      cause)
      ⊎ (Refuses why × IsStoreFault why × (late_reader ≡ reader) × (late_writer ≡ writer))
      ⊎ (IsCloseFault why × AnswersLines g Begins (FailedToClose Ends why) remaining contents
      reader late_reader writer late_writer)
