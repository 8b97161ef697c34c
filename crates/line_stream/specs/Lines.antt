-- The lines of bytes.
use Rattle.std.specs.Prelude.{◌≡◌, ◌≢◌, ℕ, List, [], ◌∷◌, ◌++◌, All, flat_map}

-- how many bytes a line has at most that is answered for what it says
abbrev pub longest_line : ℕ
longest_line = 65536

-- a line has no line feed in it, the byte 10
abbrev pub IsLine : List ℕ → Type 0
IsLine line = All (λ byte. byte ≢ 10) line

-- lines one after another, with a line feed after each
abbrev pub ended : List (List ℕ) → List ℕ
ended lines = flat_map (λ line. line ++ 10 ∷ []) lines

-- the bytes are these lines with a line feed after each, and then this rest, which has no line feed
pub record Divides (bytes : List ℕ) (lines : List (List ℕ)) (rest : List ℕ) : Type 0 where
  pub whole : bytes ≡ ended lines ++ rest
  pub are_lines : All IsLine lines
  pub rest_is_line : IsLine rest

-- These are the lines of the bytes that had their line feed.
abbrev pub HaveEnded : List ℕ → List (List ℕ) → Type 0
HaveEnded bytes lines = (rest : List ℕ) × Divides bytes lines rest

-- lines that had their line feed, and then what came after the last line feed, which is a line if
-- it has a byte
abbrev pub with_rest : List (List ℕ) → List ℕ → List (List ℕ)
with_rest lines [] = lines
with_rest lines (byte ∷ rest) = lines ++ (byte ∷ rest) ∷ []

-- the lines of the bytes: each ends at a line feed, or at the end of the bytes
pub record AreLines (bytes : List ℕ) (lines : List (List ℕ)) : Type 0 where
  pub front : List (List ℕ)
  pub rest : List ℕ
  pub divides : Divides bytes front rest
  pub all : lines ≡ with_rest front rest
