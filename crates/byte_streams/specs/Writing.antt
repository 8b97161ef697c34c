-- How much of a text was written.
use Rattle.std.specs.Prelude.{◌≡◌, ℕ, List, ◌++◌, Option}
use Rattle.std.specs.Io.KnownBytes.{Appends}

-- a beginning of the text was written, perhaps none of it or all
abbrev pub WritesBeginning : Option (List ℕ) → Option (List ℕ) → List ℕ → Type 0
WritesBeginning before after text = (front left : List ℕ) × (text ≡ front ++ left) ×
    Appends before after front

-- a front of the text was written, and this is left of it
abbrev pub Forwards : Option (List ℕ) → Option (List ℕ) → List ℕ → List ℕ → Type 0
Forwards before after text left = (front : List ℕ) × (text ≡ front ++ left) ×
    Appends before after front
