-- What the calls of a server of lines do, each from one place to the next.
use Rattle.std.specs.Prelude.{◌≡◌, ℕ, ◌+◌, min, List, [], ◌∷◌, ◌++◌, MatchResult, Option, Result}
use Rattle.std.specs.Prelude.{Some}
use Rattle.byte_streams.specs.Counted.{writer_of}
use Rattle.byte_streams.specs.InTurn.{InTurn}
use Rattle.byte_streams.specs.Serving.{greatest_count}
use Rattle.byte_streams.specs.Writing.{Forwards, WritesBeginning}
use Rattle.byte_streams.specs.declared.counted.CountedWriter.{CountedWriter}
use Rattle.byte_streams.specs.declared.fault.StreamFault.{StreamFault}
use Rattle.byte_streams.specs.declared.fault.StreamFault.TheVariants.{WriteFailed}
use Rattle.line_stream.specs.Answers.{Answered}
use Rattle.line_stream.specs.Serving.{LinesServed}
use Rattle.line_stream.specs.Inner.Lines.{LinesServedInPart}
use Rattle.line_stream.specs.Inner.Midway.{GivesKept, IsCutOff, IsEnded, IsMidway, LinePlace}
use Rattle.line_stream.specs.declared.handler.Handler.{Ghosts}
use Rattle.line_stream.specs.declared.serving.Progress.{Progress}

module _ {W : Type 0} (contents : W → Option (List ℕ)) where
  -- where a server stands, by its progress, the state and the writer
  abbrev pub line_place : {S : Type 0} → Progress → S → CountedWriter W → LinePlace S
  line_place progress state writer = record {
    state = state;
    written = contents (writer_of writer);
    waiting = progress.outbox;
    line = progress.line;
    answered = progress.answered;
  }

  -- A text and a line feed go out behind what waits: a front of all that is written, and the rest
  -- waits. Where a write fails, a beginning of all that was written.
  abbrev pub PutsLine : {A : Type 0} → CountedWriter W → CountedWriter W → List ℕ → List ℕ → List ℕ
      → Result A StreamFault → Type 0
  PutsLine old new waiting text left result = MatchResult result
      (λ _. Forwards (contents (writer_of old)) (contents (writer_of new))
      (waiting ++ (text ++ 10 ∷ [])) left)
      (λ fault. (fault ≡ WriteFailed)
      × WritesBeginning (contents (writer_of old)) (contents (writer_of new))
      (waiting ++ (text ++ 10 ∷ [])))

module _ {H S : Type 0} (handler : Ghosts H S) where
  abbrev Gives : S → List ℕ → List ℕ → S → Type 0
  Gives = Answered handler

  -- The line that has begun ends here and is answered. The answer goes out, the next line begins,
  -- and one line more is counted; or a write fails.
  abbrev pub EndsLine : {A : Type 0} → LinePlace S → LinePlace S → Result A StreamFault → Type 0
  EndsLine old new result = (text : List ℕ) × GivesKept Gives old.line old.state text new.state
      × MatchResult result
      (λ _. (new.line ≡ Some []) × (new.answered ≡ min (old.answered + 1) greatest_count)
      × Forwards old.written new.written (old.waiting ++ (text ++ 10 ∷ [])) new.waiting)
      (λ fault. (fault ≡ WriteFailed)
      × WritesBeginning old.written new.written (old.waiting ++ (text ++ 10 ∷ [])))

  -- These bytes come behind those that came before. Then the lines that end in them are answered as
  -- well; or a write fails, and the answers are cut off.
  abbrev pub TakesBytes : {A : Type 0} → List ℕ → LinePlace S → LinePlace S → Result A StreamFault →
      Type 0
  TakesBytes bytes old new result = (origin : S) (before : Option (List ℕ)) (came : List ℕ)
      → IsMidway Gives came before origin old
      → MatchResult result (λ _. IsMidway Gives (came ++ bytes) before origin new)
      (λ fault. (fault ≡ WriteFailed) × IsCutOff Gives (came ++ bytes) before origin new)

  -- No more bytes come. Then the last line is answered as well, if it has a byte and no line feed;
  -- or a write fails.
  abbrev pub AnswersRest : {A : Type 0} → LinePlace S → LinePlace S → Result A StreamFault → Type 0
  AnswersRest old new result = (origin : S) (before : Option (List ℕ)) (came : List ℕ)
      → IsMidway Gives came before origin old
      → MatchResult result (λ _. IsEnded Gives came before origin new)
      (λ fault. (fault ≡ WriteFailed)
      × LinesServedInPart (InTurn Gives) (Some came) before new.written origin new.state)

  -- No more bytes come. Then all lines are answered, their answers are written, and their count is
  -- told; or a write fails.
  abbrev pub FinishesLines : LinePlace S → LinePlace S → Result ℕ StreamFault → Type 0
  FinishesLines old new result = (origin : S) (before : Option (List ℕ)) (came : List ℕ)
      → IsMidway Gives came before origin old
      → MatchResult result
      (LinesServed (InTurn Gives) (Some came) before new.written origin new.state)
      (λ fault. (fault ≡ WriteFailed)
      × LinesServedInPart (InTurn Gives) (Some came) before new.written origin new.state)
