-- What the calls of a server of requests do, each from one place to the next.
use Rattle.std.specs.Prelude.{◌≡◌, ℕ, ◌++◌, Bool, true, false, List, [], length, MatchOption}
use Rattle.std.specs.Prelude.{MatchResult, Option, Result}
use Rattle.std.specs.Io.KnownBytes.{Appends, Consumes, IsAtEnd}
use Rattle.byte_streams.specs.Counted.{reader_of, writer_of}
use Rattle.byte_streams.specs.Writing.{Forwards, WritesBeginning}
use Rattle.byte_streams.specs.declared.counted.CountedReader.{CountedReader}
use Rattle.byte_streams.specs.declared.counted.CountedWriter.{CountedWriter}
use Rattle.byte_streams.specs.declared.fault.StreamFault.{StreamFault}
use Rattle.byte_streams.specs.declared.fault.StreamFault.TheVariants.{WriteFailed}
use Rattle.http_messages.specs.declared.audience.Audience.{Audience}
use Rattle.http_messages.specs.Requests.{Ask}
use Rattle.http_stream.specs.Streams.{Item, Calls}
use Rattle.http_stream.specs.Answers.{ItemAnswered}
use Rattle.http_stream.specs.Inner.Midstream.{FailedToRead, IsBroken, IsFilledUp, IsMidstream}
use Rattle.http_stream.specs.Inner.Midstream.{IsOver, StreamPlace}
use Rattle.http_stream.specs.declared.service.Service.{Ghosts}
use Rattle.http_stream.specs.declared.serving.StreamProgress.{StreamProgress}

module _ {W : Type 0} (contents : W → Option (List ℕ)) where
  -- where a server stands, by its progress, the state and the writer
  abbrev pub stream_place : {S : Type 0} → StreamProgress → S → CountedWriter W → StreamPlace S
  stream_place progress state writer = record {
    state = state;
    written = contents (writer_of writer);
    waiting = progress.outbox;
    rest = progress.buffer;
    answered = progress.answered;
  }

  -- A text goes out behind what waits: a front of all that is written, and the rest waits. Where a
  -- write fails, a beginning of all that was written.
  abbrev pub PutsText : {A : Type 0} → CountedWriter W → CountedWriter W → List ℕ → List ℕ → List ℕ
      → Result A StreamFault → Type 0
  PutsText old new waiting text left result = MatchResult result
      (λ _. Forwards (contents (writer_of old)) (contents (writer_of new)) (waiting ++ text) left)
      (λ fault. (fault ≡ WriteFailed)
      × WritesBeginning (contents (writer_of old)) (contents (writer_of new)) (waiting ++ text))

module _ {H C S : Type 0} (ghosts : Ghosts H C S) (service : H) where
  abbrev Front : Type 0
  Front = C × S

  abbrev Gives : Front → Item → List ℕ → Front → Type 0
  Gives = ItemAnswered ghosts service

  -- A request is answered, and its answer goes out; or a write fails.
  abbrev pub AnswersAsk : {W A : Type 0} → Ask → Front → Front → (W → Option (List ℕ)) →
      CountedWriter W → CountedWriter W → List ℕ → List ℕ → Result A StreamFault → Type 0
  AnswersAsk ask old new contents before after waiting left result = (text : List ℕ)
      × Gives old (Calls ask) text new × PutsText contents before after waiting text left result

  -- The request at the front of the bytes is answered. Then the server is in mid-stream as before,
  -- or the stream is over where that was the last; or a write fails, and the answers break off.
  abbrev pub AnswersNext : {A : Type 0} → Audience → Bool → StreamPlace Front → StreamPlace Front →
      Result A StreamFault → Type 0
  AnswersNext audience is_last old new result = (origin : Front) (before : Option (List ℕ)) (came : List ℕ)
      → IsMidstream audience Gives came before origin old
      → MatchResult result
      (λ _. ((is_last ≡ false) → IsMidstream audience Gives came before origin new)
      × ((is_last ≡ true) → IsOver audience Gives came before origin new))
      (λ fault. (fault ≡ WriteFailed) × IsBroken audience Gives came before origin new)

  -- The requests that are whole in the bytes are answered. Then the server is in mid-stream as
  -- before, and tells how many bytes it wants; or the stream is over, and it wants none; or a write
  -- fails, and the answers break off.
  abbrev pub AnswersWhole : Audience → StreamPlace Front → StreamPlace Front → Result (Option ℕ) StreamFault →
      Type 0
  AnswersWhole audience old new result = (origin : Front) (before : Option (List ℕ)) (came : List ℕ)
      → IsMidstream audience Gives came before origin old
      → MatchResult result
      (λ next. MatchOption next (IsOver audience Gives came before origin new)
      (λ wanted. IsMidstream audience Gives came before origin new))
      (λ fault. (fault ≡ WriteFailed) × IsBroken audience Gives came before origin new)

module _ {R W : Type 0} (remaining : R → Option (List ℕ)) (contents : W → Option (List ℕ)) where
  -- What waits is written, and what is read comes behind the bytes that are kept, until there are
  -- as many as are wanted or the input has ended; or a read or a write fails.
  abbrev pub ReadsUpTo : ℕ → CountedReader R → CountedReader R → CountedWriter W → CountedWriter W →
      StreamProgress → StreamProgress → Result Bool StreamFault → Type 0
  ReadsUpTo wanted reader left before after old new result = (more : List ℕ)
      × Consumes (remaining (reader_of reader)) (remaining (reader_of left)) more
      × MatchResult result
      (λ is_there. (new.buffer ≡ old.buffer ++ more) × (new.outbox ≡ [])
      × Appends (contents (writer_of before)) (contents (writer_of after)) old.outbox
      × IsFilledUp is_there wanted (length new.buffer) (IsAtEnd (remaining (reader_of left))))
      (λ fault. FailedToRead fault wanted (length (old.buffer ++ more))
      (contents (writer_of before)) (contents (writer_of after)) old.outbox)
