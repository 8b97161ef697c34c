-- The seats on a device, counted partition by partition.
use Rattle.std.proofs.Common.{◌≡◌, ℕ, zero, suc, ◌+◌, ◌-◌, ◌*◌, ◌==◌, ◌<◌, ◌≤◌, Bool, true, List}
use Rattle.std.proofs.Common.{[], ◌∷◌, length, get_or, take, drop, sum_by, count_by, cond, map}
use Rattle.std.proofs.Common.{Option, Some, refl, ap, ◌∙◌, arith}
use Rattle.std.specs.Prelude.{slice_range}
use Rattle.std.proofs.Math.Nat.{add-mul}
use Rattle.std.proofs.Math.Seq.{take-add}
use Rattle.std.proofs.lemmas.List.{take_all}
use Rattle.std.proofs.lemmas.List.FromFn.{length-map-range_with_len, get_or-map-range_with_len}
use Rattle.std.proofs.lemmas.List.Sums.{sum_by_more, sum_by-cons, sum_by-append}
use Rattle.ring_model.specs.Ring.{RingRecord, partition_count, is_assigned}
use Rattle.ring_model.specs.Valid.{IsValid}
use Rattle.ring_share.specs.Room.{have}
use Rattle.ring_share.specs.Crowd.{row_of, rows_of, seats_on, is_on}
use Rattle.ring_share.proofs.Assigned.{row_is, all_there}

count_some : (test : ℕ → Bool) (ids : List ℕ) → count_by (is_on test) (map Some ids) ≡ count_by test
    ids
count_some test [] = refl
count_some test (id ∷ ids) =
    let one = sum_by-cons (λ (x : Option ℕ). cond (is_on test x) 1 0) (Some id) (map Some ids) in
    let other = sum_by-cons (λ (x : ℕ). cond (test x) 1 0) id ids in
    let rest = count_some test ids in
    omega (arith, one, other, rest)

-- the seats of the first partitions
first_rows : (ring : RingRecord) (id n : ℕ) → length ring.seats ≡ partition_count ring *
    ring.replicas → n ≤ partition_count ring
    → sum_by (seats_on id) (take n (rows_of ring)) ≡ count_by (λ seat. seat == id)
    (take (n * ring.replicas) ring.seats)
first_rows ring id zero whole le = let none : 0 * ring.replicas ≡ 0 = omega arith in rw none refl
first_rows ring id (suc n) whole le =
    let rest = first_rows ring id n whole (omega (arith, le)) in
    let lt : n < partition_count ring = omega (arith, le) in
    let rows = length-map-range_with_len (λ p. row_of ring p) 0 (partition_count ring) in
    let more = sum_by_more (seats_on id) (rows_of ring) n (row_of ring n) (omega (arith, lt, rows))
    in
    let row : seats_on id (get_or (rows_of ring) n (row_of ring n)) ≡ count_by (λ seat. seat == id)
    (slice_range ring.seats (n * ring.replicas) (n * ring.replicas + ring.replicas)) =
    ap (seats_on id) (get_or-map-range_with_len (λ p. row_of ring p) 0 (partition_count ring) n n
    (row_of ring n) lt (omega arith) ∙ row_is ring n whole lt) ∙ count_some (λ seat. seat == id)
    (slice_range ring.seats (n * ring.replicas) (n * ring.replicas + ring.replicas)) in
    let width : (n * ring.replicas + ring.replicas) - n * ring.replicas ≡ ring.replicas =
    omega arith in
    let next : suc n * ring.replicas ≡ n * ring.replicas + ring.replicas =
    (let one : suc n ≡ n + 1 = omega arith in ap (λ (k : ℕ). k * ring.replicas) one) ∙ add-mul n
    1 ring.replicas ∙ omega arith in
    let parts = sum_by-append (λ (seat : ℕ). cond (seat == id) 1 0) (take (n * ring.replicas)
    ring.seats) (take ring.replicas (drop (n * ring.replicas) ring.seats)) in
    let both : count_by (λ seat. seat == id) (take (suc n * ring.replicas) ring.seats)
    ≡ count_by (λ seat. seat == id) (take (n * ring.replicas) ring.seats) + count_by
    (λ seat. seat == id) (take ring.replicas (drop (n * ring.replicas) ring.seats)) =
    ap (λ (k : ℕ). count_by (λ seat. seat == id) (take k ring.seats)) next ∙ ap
    (count_by (λ seat. seat == id)) (take-add (n * ring.replicas) ring.replicas ring.seats) ∙
    parts in
    let part : count_by (λ seat. seat == id) (slice_range ring.seats (n * ring.replicas)
    (n * ring.replicas + ring.replicas)) ≡ count_by (λ seat. seat == id)
    (take ring.replicas (drop (n * ring.replicas) ring.seats)) =
    ap (λ (k : ℕ). count_by (λ seat. seat == id) (take k (drop (n * ring.replicas) ring.seats)))
    width in
    let step : sum_by (seats_on id) (take (suc n) (rows_of ring)) ≡ sum_by (seats_on id)
    (take (n + 1) (rows_of ring)) = (let one : suc n ≡ n + 1 = omega arith in
    ap (λ (k : ℕ). sum_by (seats_on id) (take k (rows_of ring))) one) in
    omega (arith, rest, more, row, both, part, step)

-- a device has the seats that it has in each partition
pub have_is_rows : (ring : RingRecord) (id : ℕ) → IsValid ring → is_assigned ring ≡ true →
    have ring id ≡ sum_by (seats_on id) (rows_of ring)
have_is_rows ring id valid assigned =
    let whole = all_there ring valid assigned in
    let rows = length-map-range_with_len (λ p. row_of ring p) 0 (partition_count ring) in
    let all = first_rows ring id (partition_count ring) whole (omega arith) in
    let seats = ap (count_by (λ seat. seat == id)) (take_all (partition_count ring * ring.replicas)
    ring.seats (omega (arith, whole))) in
    let every = ap (sum_by (seats_on id)) (take_all (partition_count ring) (rows_of ring)
    (omega (arith, rows))) in
    omega (arith, all, seats, every)
