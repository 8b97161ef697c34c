-- Rows of a width that stand twice, one after the other.
use Rattle.std.specs.Prelude.{◌≡◌, ℕ, ◌+◌, ◌*◌, ◌<◌, List, slice_get}

-- With so many elements a row, each row of the one list stands twice in the other.
abbrev pub IsTwice : {X : Type 0} → ℕ → List X → List X → Type 0
IsTwice width items twice = (row place : ℕ) → place < width →
    (slice_get twice (2 * row * width + place) ≡ slice_get items (row * width + place))
    × (slice_get twice ((2 * row + 1) * width + place) ≡ slice_get items (row * width + place))
