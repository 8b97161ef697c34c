-- Counts of elements for each device, by its number.
use Rattle.std.specs.Prelude.{◌≡◌, ℕ, ◌<◌, Bool, List, count_by, length, slice_index}
use Rattle.ring_words.specs.Limits.{most_ids}

-- There is a count for each number that a device may have: it tells how many of these elements pass
-- the test of that number.
pub record AreSeatCounts {X : Type 0} (test : ℕ → X → Bool) (elements : List X) (counts : List ℕ) :
    Type 0 where
  pub long : length counts ≡ most_ids
  pub counted : (id : ℕ) → id < most_ids → slice_index counts id ≡ count_by (test id) elements
