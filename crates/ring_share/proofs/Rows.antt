-- The seats of a partition as a list.
use Rattle.std.proofs.Common.{◌≡◌, ◌≢◌, ℕ, ◌+◌, ◌<◌, length, Option, None, count_by, take, ap, ◌∙◌}
use Rattle.std.proofs.Common.{refl, arith, get_or, cond, Bool, true, false, ◌≤◌, ◌*◌, List, ⊎_elim}
use Rattle.std.proofs.Common.{inl, inr}
use Rattle.std.specs.Prelude.{IfSome, slice_get}
use Rattle.std.proofs.lemmas.Bool.{cases_eq}
use Rattle.std.proofs.lemmas.Option.{slice_get_cases}
use Rattle.std.proofs.lemmas.List.{get_or-set_other, get_or-set_same, length-set}
use Rattle.std.proofs.lemmas.List.FromFn.{get_or-map-range_with_len, length-map-range_with_len}
use Rattle.std.proofs.lemmas.List.FromFn.{get_or-range_with_len, length-range_with_len}
use Rattle.std.specs.List.{list_any, range_with_len}
use Rattle.std.proofs.lemmas.List.{take_all}
use Rattle.std.proofs.lemmas.List.Sums.{sum_by_more}
use Rattle.std.proofs.lemmas.List.Folds.{list_any_none, list_any_at}
use Rattle.ring_model.specs.Ring.{RingRecord, has_device, partition_count, seat}
use Rattle.ring_model.specs.Valid.{IsValid}
use Rattle.ring_share.specs.Crowd.{row_of, others, Tiers, is_on, crowd, rows_of}

pub length-row_of : (ring : RingRecord) (partition : ℕ) → length (row_of ring partition) ≡
    ring.replicas
length-row_of ring partition = length-map-range_with_len (λ replica. seat ring partition replica) 0
    ring.replicas

pub row_of_at : (ring : RingRecord) (partition replica : ℕ) → replica < ring.replicas →
    get_or (row_of ring partition) replica None ≡ seat ring partition replica
row_of_at ring partition replica lt = get_or-map-range_with_len (λ r. seat ring partition r) 0
    ring.replicas replica replica None lt (omega arith)

pub length-others : (ring : RingRecord) (partition replica : ℕ) →
    length (others (row_of ring partition) replica) ≡ ring.replicas
length-others ring partition replica = length-set (row_of ring partition) replica None ∙
    length-row_of ring partition

-- the other seats are seen as they are
pub others_at : (ring : RingRecord) (partition replica other : ℕ) → other < ring.replicas →
    other ≢ replica
    → get_or (others (row_of ring partition) replica) other None ≡ seat ring partition other
others_at ring partition replica other lt ne = get_or-set_other (row_of ring partition) replica
    other None None ne ∙ row_of_at ring partition other lt

-- the counts of all seats are the crowd
pub crowd_is : (tiers : Tiers) (row : List (Option ℕ)) (id n region zone server : ℕ) →
    take n row ≡ row → region ≡ count_by (is_on (tiers.region id)) (take n row)
    → zone ≡ count_by (is_on (tiers.zone id)) (take n row) →
    server ≡ count_by (is_on (tiers.server id)) (take n row) → ◌≡◌ {A = ℕ × ℕ × ℕ} (
      region,
      zone,
      server,
    ) (crowd tiers row id)
crowd_is tiers row id n region zone server all r z s =
    let r' : region ≡ count_by (is_on (tiers.region id)) row =
    r ∙ ap (count_by (is_on (tiers.region id))) all in
    let z' : zone ≡ count_by (is_on (tiers.zone id)) row = z ∙ ap (count_by (is_on (tiers.zone id)))
    all in
    let s' : server ≡ count_by (is_on (tiers.server id)) row =
    s ∙ ap (count_by (is_on (tiers.server id))) all in
    rw (r', z', s') refl

-- one more partition is counted
pub rows_more : (test : List (Option ℕ) → Bool) (ring : RingRecord) (partition : ℕ) →
    partition < partition_count ring
    → count_by test (take (partition + 1) (rows_of ring)) ≡ count_by test
    (take partition (rows_of ring)) + cond (test (row_of ring partition)) 1 0
rows_more test ring partition lt =
    let within : partition < length (rows_of ring) =
    omega (arith, lt, length-map-range_with_len (λ p. row_of ring p) 0 (partition_count ring))
    in
    sum_by_more (λ x. cond (test x) 1 0) (rows_of ring) partition (row_of ring partition) within
    ∙ ap (λ x. count_by test (take partition (rows_of ring)) + cond (test x) 1 0)
    (get_or-map-range_with_len (λ p. row_of ring p) 0 (partition_count ring) partition partition
    (row_of ring partition) lt (omega arith))

pub rows_more_yes : (test : List (Option ℕ) → Bool) (ring : RingRecord) (partition : ℕ) →
    partition < partition_count ring → test (row_of ring partition) ≡ true
    → count_by test (take (partition + 1) (rows_of ring)) ≡ count_by test
    (take partition (rows_of ring)) + 1
rows_more_yes test ring partition lt passes = rows_more test ring partition lt ∙ rw passes refl

pub rows_more_no : (test : List (Option ℕ) → Bool) (ring : RingRecord) (partition : ℕ) →
    partition < partition_count ring → test (row_of ring partition) ≡ false
    → count_by test (take (partition + 1) (rows_of ring)) ≡ count_by test
    (take partition (rows_of ring))
rows_more_no test ring partition lt fails = rows_more test ring partition lt ∙ rw fails
    (omega arith)

pub all_rows : (ring : RingRecord) (n : ℕ) → partition_count ring ≤ n →
    take n (rows_of ring) ≡ rows_of ring
all_rows ring n le = take_all n (rows_of ring) (omega (
  arith,
  le,
  length-map-range_with_len (λ p. row_of ring p) 0 (partition_count ring),
))

-- a number below n passes
pub some_below : (test : ℕ → Bool) (n k : ℕ) → k < n → test k ≡ true →
    list_any test (range_with_len 0 n) ≡ true
some_below test n k lt passes = list_any_at test (range_with_len 0 n) k k (omega (
  arith,
  lt,
  length-range_with_len 0 n,
))
    (ap test (get_or-range_with_len 0 n k k lt) ∙ (let same : 0 + k ≡ k = omega arith in
    rw same passes))

-- no number below n passes
pub none_below : (test : ℕ → Bool) (n : ℕ) → ((k : ℕ) → k < n → test k ≡ false) →
    list_any test (range_with_len 0 n) ≡ false
none_below test n none = list_any_none test (range_with_len 0 n)
    (λ k d lt. let below : k < n = omega (arith, lt, length-range_with_len 0 n) in
    ap test (get_or-range_with_len 0 n k d below) ∙ (let same : 0 + k ≡ k = omega arith in
    rw same (none k below)))

-- the other seats are on devices of the ring
pub others_known : (ring : RingRecord) → IsValid ring → (partition replica other : ℕ) →
    other < ring.replicas → IfSome (get_or (others (row_of ring partition) replica) other None)
    (λ id. has_device id ring.devices ≡ true)
others_known ring valid partition replica other lt = ⊎_elim
    (λ same. rw same (rw (get_or-set_same (row_of ring partition) replica None None
    (let long = length-row_of ring partition in omega (arith, same, lt, long))) tt))
    (λ ne. rw (others_at ring partition replica other lt ne)
    (seat_known (partition * ring.replicas + other)))
    (cases_eq other replica)
  where
    seat_known : (n : ℕ) → IfSome (slice_get ring.seats n) (λ id. has_device id ring.devices ≡ true)
    seat_known n = elim (slice_get_cases ring.seats n).1 [
      | inl found ↦ rw found.2 (rw found.3 at (valid.seats.known n found.0 found.1))
      | inr past ↦ rw past.1 tt
    ]
