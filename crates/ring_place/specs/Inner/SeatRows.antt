-- The rows of seats that are in work.
use Rattle.std.specs.Prelude.{◌≡◌, ℕ, ◌*◌, ◌≤◌, List, length}
use Rattle.ring_words.specs.Limits.{most_partitions, most_replicas}
use Rattle.std.specs.Prelude.{Option}

-- These are the seats of so many partitions, each of so many replicas.
pub record AreSeatRows (seats : List (Option ℕ)) (partitions replicas : ℕ) : Type 0 where
  pub count : length seats ≡ partitions * replicas
  pub few_partitions : partitions ≤ most_partitions
  pub few_replicas : replicas ≤ most_replicas
