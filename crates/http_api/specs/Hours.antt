-- Clocks that are known.
use Rattle.std.specs.Prelude.{◌≡◌, ℕ, List, [], ◌∷◌}

-- The first of the hours is told, and it is dropped unless it is the last.
abbrev pub TellsFirst : List ℕ → ℕ → List ℕ → Type 0
TellsFirst [] hour new = ⊥
TellsFirst (first ∷ []) hour new = (hour ≡ first) × (new ≡ first ∷ [])
TellsFirst (first ∷ second ∷ later) hour new = (hour ≡ first) × (new ≡ second ∷ later)
