-- Partitions that a rebalance leaves where they are, and for how long.
use Rattle.std.specs.Prelude.{◌≡◌, ◌==◌, ℕ, ◌+◌, ◌-◌, ◌<◌, All, Option, Some, None, List, count_by}
use Rattle.std.specs.Prelude.{map, max, sum_by}
use Rattle.std.specs.List.{fold}
use Rattle.std.specs.List.Sorted.{IsStrictlyIncreasing}
use Rattle.ring_model.specs.Ring.{RingRecord}
use Rattle.ring_place.specs.Rebalance.{is_recent}
use Rattle.ring_metrics.specs.declared.locks.LockEnd.{LockEnd}

-- how many partitions are locked at an hour, each by the hour of its last move
abbrev pub locked_count : RingRecord → ℕ → ℕ
locked_count ring hour = count_by (is_recent ring.min_hours hour) ring.moved

-- So many hours after an hour no partition is locked, and fewer hours after it one is.
pub record IsRest (ring : RingRecord) (hour rest : ℕ) : Type 0 where
  pub over : locked_count ring (hour + rest) ≡ 0
  pub not_before : (fewer : ℕ) → fewer < rest → 0 < locked_count ring (hour + fewer)

-- for how many hours from an hour on a partition is locked, by the hour of its last move; 0 where it
-- isn't
abbrev pub hours_left : ℕ → ℕ → Option ℕ → ℕ
hours_left min_hours hour None = 0
hours_left min_hours hour (Some moved) = moved + min_hours - hour

-- how many partitions are locked for just so many hours from an hour on
abbrev pub ending_count : RingRecord → ℕ → ℕ → ℕ
ending_count ring hour hours =
    count_by (λ moved. hours_left ring.min_hours hour moved == hours) ring.moved

-- These tell after how many hours from an hour on locked partitions are free, by rising hours, and
-- how many are then: some, and together all that are locked at the hour.
pub record AreLockEnds (ring : RingRecord) (hour : ℕ) (ends : List LockEnd) : Type 0 where
  pub rise : IsStrictlyIncreasing (map (λ end. end.hours) ends)
  pub counted : All (λ end. end.partitions ≡ ending_count ring hour end.hours) ends
  pub some : All (λ end. (0 < end.hours) × (0 < end.partitions)) ends
  pub all : sum_by (λ end. end.partitions) ends ≡ locked_count ring hour

-- the most hours that some tell, 0 where there are none
abbrev pub longest : List LockEnd → ℕ
longest ends = fold (λ most end. max most end.hours) 0 ends
