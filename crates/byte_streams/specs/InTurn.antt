-- Items that are answered one after another.
use Rattle.std.specs.Prelude.{◌≡◌, ℕ, List, [], ◌∷◌}

-- From the first state these items may get these texts, each from the state that the one before
-- left, and the last state is left.
abbrev pub InTurn : {S I : Type 0} → (S → I → List ℕ → S → Type 0) → S → List I → List (List ℕ) →
    S → Type 0
InTurn gives old [] texts new = (texts ≡ []) × (new ≡ old)
InTurn {S} gives old (item ∷ items) texts new =
    (text : List ℕ) × (mid : S) × (more : List (List ℕ))
    × gives old item text mid × (texts ≡ text ∷ more) × InTurn gives mid items more new
