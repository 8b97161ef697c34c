-- What serving the lines of a stream does.
use Rattle.std.specs.Prelude.{◌≡◌, ℕ, List, Option}
use Rattle.byte_streams.specs.Counted.{reader_of, writer_of}
use Rattle.byte_streams.specs.declared.counted.CountedReader.{CountedReader}
use Rattle.byte_streams.specs.declared.counted.CountedWriter.{CountedWriter}
use Rattle.byte_streams.specs.declared.fault.StreamFault.{StreamFault}
use Rattle.byte_streams.specs.Serving.{Served, Stopped}
use Rattle.line_stream.specs.Lines.{AreLines, HaveEnded, ended}

-- Each line of the bytes that the reader gave was answered, and what was written is the answers,
-- each with a line feed.
abbrev pub LinesServed : {S : Type 0} → (S → List (List ℕ) → List (List ℕ) → S → Type 0) →
    Option (List ℕ) → Option (List ℕ) → Option (List ℕ) → S → S → ℕ → Type 0
LinesServed Get = Served AreLines HaveEnded ended Get

-- what a fault leaves; where no memory was there, nothing was touched
abbrev pub LinesStopped : {S : Type 0} → (S → List (List ℕ) → List (List ℕ) → S → Type 0) →
    Option (List ℕ) → Option (List ℕ) → Option (List ℕ) → Option (List ℕ) → S → S → Type 0 →
    StreamFault → Type 0
LinesStopped Get = Stopped AreLines HaveEnded ended Get

module _ {R W S : Type 0} (remaining : R → Option (List ℕ)) (contents : W → Option (List ℕ))
    (Get : S → List (List ℕ) → List (List ℕ) → S → Type 0) where
  -- Each line of the bytes that a counted reader gave was answered, and what was written on a
  -- counted writer is the answers, as far as the two tell of their bytes.
  abbrev pub LinesServedOn : CountedReader R → CountedWriter W → CountedWriter W → S → S → ℕ →
      Type 0
  LinesServedOn reader before after = LinesServed Get (remaining (reader_of reader))
      (contents (writer_of before)) (contents (writer_of after))

  -- what a fault leaves of a counted reader, a counted writer and a state; where no memory was
  -- there, these are as they were
  abbrev pub LinesStoppedOn : CountedReader R → CountedReader R → CountedWriter W → CountedWriter W
      → S → S → StreamFault → Type 0
  LinesStoppedOn reader left before after old new = LinesStopped Get (remaining (reader_of reader))
      (remaining (reader_of left)) (contents (writer_of before)) (contents (writer_of after)) old
      new ((left ≡ reader) × (after ≡ before) × (new ≡ old))
