-- Clocks that are known.
use Rattle.std.proofs.Common.{ℕ, List, [], ◌∷◌, refl}
use Rattle.http_api.specs.Hours.{TellsFirst}

-- the first of the hours may be told
pub first_told : (first : ℕ) (more : List ℕ) → (later : List ℕ) × TellsFirst (first ∷ more) first later
first_told first [] = (first ∷ [], (refl, refl))
first_told first (second ∷ more) = (second ∷ more, (refl, refl))
