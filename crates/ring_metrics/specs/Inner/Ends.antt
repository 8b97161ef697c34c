-- The hours for which partitions are locked, and how often each comes.
use Rattle.std.specs.Prelude.{◌≡◌, ◌==◌, ℕ, ◌<◌, ◌≤◌, nat_lt, All, List, count_by, filter, length}
use Rattle.std.specs.Prelude.{map, sum_by}
use Rattle.std.specs.List.Sorted.{IsStrictlyIncreasing}
use Rattle.ring_model.specs.Ring.{RingRecord}
use Rattle.ring_metrics.specs.Locks.{hours_left, longest}
use Rattle.ring_metrics.specs.declared.locks.LockEnd.{LockEnd}

-- for how many hours from an hour on each partition is locked that is, in the order of the
-- partitions
abbrev pub left_hours : RingRecord → ℕ → List ℕ
left_hours ring hour = filter (nat_lt 0) (map (hours_left ring.min_hours hour) ring.moved)

-- how often a number comes
abbrev pub times : List ℕ → ℕ → ℕ
times numbers number = count_by (λ other. other == number) numbers

-- These tell which numbers come, by rising number, and how often each does.
pub record AreEndsOf (numbers : List ℕ) (ends : List LockEnd) : Type 0 where
  pub rise : IsStrictlyIncreasing (map (λ end. end.hours) ends)
  pub counted : All (λ end. end.partitions ≡ times numbers end.hours) ends
  pub some : All (λ end. 0 < end.partitions) ends
  pub all : sum_by (λ end. end.partitions) ends ≡ length numbers
  pub most : All (λ number. number ≤ longest ends) numbers
