-- What serving lines has done so far.
use Rattle.std.specs.Prelude.{ℕ, List, Option}
use Rattle.byte_streams.specs.Serving.{ServedInPart, ServedSoFar}
use Rattle.line_stream.specs.Lines.{AreLines, HaveEnded, ended}

-- Each line that had its line feed in the bytes that came was answered, and the answers were
-- written.
abbrev pub LinesServedSoFar : {S : Type 0} → (S → List (List ℕ) → List (List ℕ) → S → Type 0) →
    Option (List ℕ) → Option (List ℕ) → Option (List ℕ) → Option (List ℕ) → S → S → Type 0
LinesServedSoFar Get = ServedSoFar AreLines HaveEnded ended Get

-- Some lines from the front of the stream were answered, and a beginning of the answers was
-- written.
abbrev pub LinesServedInPart : {S : Type 0} → (S → List (List ℕ) → List (List ℕ) → S → Type 0) →
    Option (List ℕ) → Option (List ℕ) → Option (List ℕ) → S → S → Type 0
LinesServedInPart Get = ServedInPart AreLines HaveEnded ended Get
