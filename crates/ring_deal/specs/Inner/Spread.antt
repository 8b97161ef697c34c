-- How the cards of one device lie in a hand.
use Rattle.std.specs.Prelude.{◌≡◌, ◌<◌, ℕ, ◌+◌, List, length, slice_index}

-- No two cards of one device are as far apart as there are partitions in a hand.
abbrev pub AreSpread : ℕ → List ℕ → Type 0
AreSpread size hand = (one other : ℕ) → one < other → other < length hand →
    slice_index hand one ≡ slice_index hand other → other < one + size
