-- The line in which bytes stop being the text of a ring, for a person who has to mend them.
use Rattle.std.specs.Prelude.{ℕ, ◌<◌, ◌≤◌, ◌==◌, List, [], ◌∷◌, ◌++◌, length, take}
use Rattle.std.specs.List.{flat_map, slice_split}
use Rattle.ring_text.specs.Snapshot.{SnapshotRecord}
use Rattle.ring_text.specs.Spelling.{Spells}

-- how many lines bytes have: what stands behind the last line feed is one too
abbrev pub line_count : List ℕ → ℕ
line_count bytes = length (slice_split (λ b. b == 10) bytes)

-- the first so many lines of bytes, each with a line feed
abbrev pub first_lines : ℕ → List ℕ → List ℕ
first_lines count bytes = flat_map (λ line. line ++ 10 ∷ []) (take count (slice_split
    (λ b. b == 10) bytes))

-- The bytes have a line of this number, counted from 1.
abbrev pub IsLineOf : List ℕ → ℕ → Type 0
IsLineOf bytes at = (1 ≤ at) × (at ≤ line_count bytes)

-- The text of no ring begins with these bytes.
abbrev pub BeginsNone : List ℕ → Type 0
BeginsNone bytes = (snapshot : SnapshotRecord) (more : List ℕ) → Spells (bytes ++ more) snapshot →
    ⊥

-- In the line of this number, counted from 1, the bytes stop being the text of a ring: the text of
-- none begins with the lines up to it. Where it is the last, what has to stand there is missing.
pub record IsStop (bytes : List ℕ) (at : ℕ) : Type 0 where
  pub line : IsLineOf bytes at
  pub none : at < line_count bytes → BeginsNone (first_lines at bytes)
