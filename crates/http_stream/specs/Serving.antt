-- What serving the requests of a stream does.
use Rattle.std.specs.Prelude.{◌≡◌, ℕ, List, Option}
use Rattle.byte_streams.specs.Counted.{reader_of, writer_of}
use Rattle.byte_streams.specs.declared.counted.CountedReader.{CountedReader}
use Rattle.byte_streams.specs.declared.counted.CountedWriter.{CountedWriter}
use Rattle.byte_streams.specs.declared.fault.StreamFault.{StreamFault}
use Rattle.byte_streams.specs.Serving.{Served, Stopped}
use Rattle.http_messages.specs.declared.audience.Audience.{Audience}
use Rattle.http_stream.specs.Streams.{Item, AreRequests, BeginWith}
use Rattle.http_stream.specs.Answers.{joined}

module _ (audience : Audience) {S : Type 0} (Get : S → List Item → List (List ℕ) → S → Type 0) where
  -- Each request of the bytes that the reader gave was answered, and what was written is the
  -- answers.
  abbrev pub RequestsServed : Option (List ℕ) → Option (List ℕ) → Option (List ℕ) → S → S → ℕ →
      Type 0
  RequestsServed = Served (AreRequests audience) (AreRequests audience) joined Get

  -- What a fault leaves: each request that was whole in the bytes that came was answered, after a
  -- failed read; a beginning of the answers was written, after a failed write. Where no memory was
  -- there, nothing was touched.
  abbrev pub RequestsStopped : Option (List ℕ) → Option (List ℕ) → Option (List ℕ) →
      Option (List ℕ) → S → S → Type 0
      → StreamFault → Type 0
  RequestsStopped = Stopped (BeginWith audience) (AreRequests audience) joined Get

module _ (audience : Audience) {R W C S : Type 0} (remaining : R → Option (List ℕ))
    (contents : W → Option (List ℕ)) (Get : C × S → List Item → List (List ℕ) → C × S → Type 0) where
  -- Each request of the bytes that a counted reader gave was answered, and what was written on a
  -- counted writer is the answers, as far as the two tell of their bytes.
  abbrev pub RequestsServedOn : CountedReader R → CountedWriter W → CountedWriter W → C × S → C × S
      → ℕ → Type 0
  RequestsServedOn reader before after = RequestsServed audience Get (remaining (reader_of reader))
      (contents (writer_of before)) (contents (writer_of after))

  -- What a fault leaves of a counted reader, a counted writer, a clock and a state. Where no memory
  -- was there, these are as they were.
  abbrev pub RequestsStoppedOn : CountedReader R → CountedReader R → CountedWriter W →
      CountedWriter W → C × S → C × S → StreamFault → Type 0
  RequestsStoppedOn reader left before after old new = RequestsStopped audience Get
      (remaining (reader_of reader)) (remaining (reader_of left)) (contents (writer_of before))
      (contents (writer_of after)) old new
      ((left ≡ reader) × (after ≡ before) × (new.0 ≡ old.0) × (new.1 ≡ old.1))
