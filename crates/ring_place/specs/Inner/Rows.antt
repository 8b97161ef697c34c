-- The seats of partitions as rows by partition, each by replica: the device that it is on, or
-- `None`.
use Rattle.std.specs.Prelude.{ℕ, ◌+◌, ◌*◌, List, map}
use Rattle.std.specs.Prelude.{Option, slice_range}
use Rattle.std.specs.List.{range_with_len}

-- the rows of so many partitions whose seats stand one after another
abbrev pub rows_in : List (Option ℕ) → ℕ → ℕ → List (List (Option ℕ))
rows_in seats partitions replicas = map (λ partition. slice_range seats (partition * replicas)
    (partition * replicas + replicas)) (range_with_len 0 partitions)
