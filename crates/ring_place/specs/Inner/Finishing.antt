-- What a rebalance writes of the rows of a ring once their seats are put.
use Rattle.std.specs.Prelude.{◌≡◌, ℕ, ◌<◌, ◌≤◌, List, length}
use Rattle.ring_words.specs.Limits.{most_replicas}
use Rattle.std.specs.Prelude.{sum_by, true, false, Option, Some, slice_get}
use Rattle.std.specs.List.{range_with_len}
use Rattle.ring_model.specs.Ring.{RingRecord, has_present, partition_count}
use Rattle.ring_model.specs.Valid.{IsValid}
use Rattle.ring_share.specs.Crowd.{rows_of, seats_on}
use Rattle.ring_share.specs.Want.{AreWanted}
use Rattle.ring_place.specs.Apart.{IsRebalanceApart}
use Rattle.ring_place.specs.Rebalance.{IsAfter, IsSeat}
use Rattle.ring_place.specs.Made.{changed_in, is_dealt, rebalanced_rows, row_at}

-- how many seats of all partitions differ
abbrev pub changed_over : List (List (Option ℕ)) → List (List (Option ℕ)) → ℕ
changed_over old new = sum_by (λ partition. changed_in (row_at old partition)
    (row_at new partition)) (range_with_len 0 (length old))

-- Partition by partition two lists of rows have as many seats, at most five.
pub record AreAlike (old new : List (List (Option ℕ))) : Type 0 where
  pub as_many : length new ≡ length old
  pub long : (partition : ℕ) → partition < length old → length (row_at new partition) ≡ length
      (row_at old partition)
  pub few : (partition : ℕ) → partition < length old → length (row_at old partition) ≤ most_replicas

-- These are seats for all partitions and replicas of a ring: each is on a device that remains,
-- those of a partition on different ones.
pub record AreWhole (ring : RingRecord) (rows : List (List (Option ℕ))) : Type 0 where
  pub as_many : length rows ≡ partition_count ring
  pub long : (partition : ℕ) → partition < partition_count ring → length (row_at rows partition) ≡
      ring.replicas
  pub taken : (partition replica : ℕ) → IsSeat ring partition replica →
      (id : ℕ) × (slice_get (row_at rows partition) replica ≡ Some (Some id)) ×
      (has_present id ring.devices ≡ true)
  pub distinct : (partition id : ℕ) → partition < partition_count ring →
      seats_on id (row_at rows partition) ≤ 1

-- These are the seats that a rebalance of a ring at an hour gives with a seed.
pub record AreRebalanced (ring : RingRecord) (hour seed : ℕ) (rows : List (List (Option ℕ))) : Type 0
  where
    pub are_whole : AreWhole ring rows
    pub apart : (new : RingRecord) → IsValid new → rows_of new ≡ rows → IsAfter ring hour new →
        IsRebalanceApart ring hour new
    pub wanted : List ℕ
    pub are : AreWanted ring wanted
    pub by_name : rows ≡ rebalanced_rows ring wanted hour seed

-- Not all seats of a ring are dealt at once, whatever its devices want.
abbrev pub IsNotDealt : RingRecord → Type 0
IsNotDealt ring = (wanted : List ℕ) → AreWanted ring wanted → is_dealt ring wanted ≡ false
