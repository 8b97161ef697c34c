-- What a server of lines knows in mid-stream.
use Rattle.std.specs.Prelude.{◌≡◌, ℕ, min, List, ◌++◌, length, All, nat_le, if◌then◌else◌}
use Rattle.std.specs.Prelude.{Option, Some, None}
use Rattle.byte_streams.specs.Serving.{greatest_count}
use Rattle.line_stream.specs.Lines.{IsLine, Divides, AreLines, ended, longest_line}
use Rattle.byte_streams.specs.InTurn.{InTurn}
use Rattle.byte_streams.specs.Writing.{Forwards, WritesBeginning}

-- what is kept of a line: all of it, or nothing where it is too long
abbrev pub line_kept : List ℕ → Option (List ℕ)
line_kept line = if nat_le (length line) longest_line then Some line else None

-- Where a server of lines stands: the state that its answers made, what the writer tells that was
-- written, the answers that wait, what is kept of the line that has begun, and how many lines were
-- answered.
pub record LinePlace (S : Type 0) : Type 0 where
  pub state : S
  pub written : Option (List ℕ)
  pub waiting : List ℕ
  pub line : Option (List ℕ)
  pub answered : ℕ

module _ {S : Type 0} (gives : S → List ℕ → List ℕ → S → Type 0) where
  -- A line of which this is kept may be given this text, and one state becomes the other.
  abbrev pub GivesKept : Option (List ℕ) → S → List ℕ → S → Type 0
  GivesKept kept old text new = (whole : List ℕ) → kept ≡ line_kept whole → gives old whole text new

  -- Each line that had its line feed in the bytes is answered. The answers are written or wait, and
  -- what is kept of the next line is known.
  pub record IsMidway (bytes : List ℕ) (before : Option (List ℕ)) (old : S) (now : LinePlace S) :
      Type 0 where
    pub lines : List (List ℕ)
    pub rest : List ℕ
    pub divides : Divides bytes lines rest
    pub kept_is : now.line ≡ line_kept rest
    pub texts : List (List ℕ)
    pub in_turn : InTurn gives old lines texts now.state
    pub forwards : Forwards before now.written (ended texts) now.waiting
    pub count_is : now.answered ≡ min (length lines) greatest_count

  -- Some lines that had their line feed in the bytes were answered, and a beginning of the answers
  -- was written.
  pub record IsCutOff (bytes : List ℕ) (before : Option (List ℕ)) (old : S) (now : LinePlace S) :
      Type 0 where
    pub answered : List (List ℕ)
    pub tail : List ℕ
    pub begins : bytes ≡ ended answered ++ tail
    pub are_lines : All IsLine answered
    pub texts : List (List ℕ)
    pub in_turn : InTurn gives old answered texts now.state
    pub written : WritesBeginning before now.written (ended texts)

  -- Each line of the bytes is answered, and the answers are written or wait.
  pub record IsEnded (bytes : List ℕ) (before : Option (List ℕ)) (old : S) (now : LinePlace S) :
      Type 0 where
    pub lines : List (List ℕ)
    pub are_lines : AreLines bytes lines
    pub texts : List (List ℕ)
    pub in_turn : InTurn gives old lines texts now.state
    pub forwards : Forwards before now.written (ended texts) now.waiting
    pub count_is : now.answered ≡ min (length lines) greatest_count
