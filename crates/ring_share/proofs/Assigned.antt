-- The seats of a partition, where the ring's seats are taken and where they are empty.
use Rattle.std.proofs.Common.{◌≡◌, ℕ, zero, suc, ◌+◌, ◌-◌, ◌*◌, ◌<◌, ◌≤◌, Bool, true, false, List}
use Rattle.std.proofs.Common.{[], ◌∷◌, length, get_or, drop, count_by, cond, map, Some, None, refl}
use Rattle.std.proofs.Common.{sym, ap, ◌∙◌, arith}
use Rattle.std.specs.Prelude.{slice_range, nat_lt}
use Rattle.std.proofs.Math.Nat.{mul-le-mul_right, add-mul}
use Rattle.std.proofs.lemmas.Bool.Decides.{nat_tests}
use Rattle.std.proofs.lemmas.Nat.{div_below, pow_pos}
use Rattle.std.proofs.lemmas.List.{get_or-map, length-map, get_or-take, get_or-drop, length-take-le}
use Rattle.std.proofs.lemmas.List.{length-drop}
use Rattle.std.proofs.lemmas.List.FromFn.{fill_by_all, length-map-range_with_len}
use Rattle.std.proofs.lemmas.List.FromFn.{get_or-map-range_with_len}
use Rattle.std.proofs.lemmas.List.Sums.{sum_by-cons}
use Rattle.std.proofs.lemmas.Option.{slice_get-get_or, slice_get_past}
use Rattle.ring_model.specs.Ring.{RingRecord, partition_count, seat, is_assigned}
use Rattle.ring_model.specs.Valid.{IsValid}
use Rattle.ring_share.specs.Crowd.{row_of, rows_of}
use Rattle.ring_share.specs.Figures.{is_crowded, has_crowded, ring_dispersion}
use Rattle.ring_share.proofs.Rows.{none_below, row_of_at, length-row_of}

-- there are seats for this partition
pub seats_within : (ring : RingRecord) (partition : ℕ) → length ring.seats ≡ partition_count ring *
    ring.replicas → partition < partition_count ring
    → partition * ring.replicas + ring.replicas ≤ length ring.seats
seats_within ring partition whole lt =
    let le : (partition + 1) * ring.replicas ≤ partition_count ring * ring.replicas =
    mul-le-mul_right ring.replicas (omega (arith, lt)) in
    omega (arith, le, whole, add-mul partition 1 ring.replicas)

-- they are one part of all seats
pub row_is : (ring : RingRecord) (partition : ℕ) → length ring.seats ≡ partition_count ring *
    ring.replicas → partition < partition_count ring
    → row_of ring partition ≡ map Some (slice_range ring.seats (partition * ring.replicas)
    (partition * ring.replicas + ring.replicas))
row_is ring partition whole lt = sym (fill_by_all (λ replica. seat ring partition replica)
    (map Some part) ring.replicas None (length-map part Some ∙ part_length) part_at)
  where
    first : ℕ
    first = partition * ring.replicas

    part : List ℕ
    part = slice_range ring.seats (partition * ring.replicas) (partition * ring.replicas +
        ring.replicas)

    within : partition * ring.replicas + ring.replicas ≤ length ring.seats
    within = seats_within ring partition whole lt

    width : (partition * ring.replicas + ring.replicas) - partition * ring.replicas ≡ ring.replicas
    width = omega arith

    part_length : length (slice_range ring.seats (partition * ring.replicas)
        (partition * ring.replicas + ring.replicas)) ≡ ring.replicas
    part_length =
        length-take-le ((partition * ring.replicas + ring.replicas) - partition * ring.replicas)
        (drop (partition * ring.replicas) ring.seats) (omega (
          arith,
          within,
          width,
          length-drop (partition * ring.replicas) ring.seats,
        ))
        ∙ width

    part_at : (k : ℕ) → k < ring.replicas →
        get_or (map Some (slice_range ring.seats (partition * ring.replicas)
        (partition * ring.replicas + ring.replicas))) k None ≡ seat ring partition k
    part_at k below =
        get_or-map Some (slice_range ring.seats (partition * ring.replicas)
        (partition * ring.replicas + ring.replicas)) k 0 None (omega (
          arith,
          below,
          part_length,
        ))
        ∙ ap Some (get_or-take ((partition * ring.replicas + ring.replicas) - partition *
        ring.replicas) (drop (partition * ring.replicas) ring.seats) k 0 (omega (
          arith,
          below,
          width,
        )) ∙ get_or-drop (partition * ring.replicas) ring.seats k 0)
        ∙ sym (slice_get-get_or ring.seats (partition * ring.replicas + k) 0 (omega (
          arith,
          below,
          within,
        )))

-- an assigned ring has all its seats
pub all_there : (ring : RingRecord) → IsValid ring → is_assigned ring ≡ true →
    length ring.seats ≡ partition_count ring * ring.replicas
all_there ring valid assigned = valid.seats.whole (some (length ring.seats) assigned)
  where
    some : (n : ℕ) → nat_lt 0 n ≡ true → 0 < n
    some n h = grind (arith, nat_tests)

count_none : {X : Type 0} (test : X → Bool) (xs : List X) → ((k : ℕ) (d : X) → k < length xs →
    test (get_or xs k d) ≡ false) → count_by test xs ≡ 0
count_none test [] none = refl
count_none test (x ∷ xs) none =
    let first : test x ≡ false = none zero x (omega arith) in
    let rest = count_none test xs (λ k d lt. none (suc k) d (omega (arith, lt))) in
    let nothing : ◌≡◌ {A = ℕ} (cond (test x) 1 0) 0 = rw first refl in
    let sum = sum_by-cons (λ y. cond (test y) 1 0) x xs in
    omega (arith, rest, nothing, sum)

-- where the seats are empty, none is crowded
pub empty_is_0 : (ring : RingRecord) → is_assigned ring ≡ false → ring_dispersion ring ≡ 0
empty_is_0 ring empty = rw (none_crowded ring empty) (let below = div_below 0 (partition_count ring)
    1 (pow_pos ring.power) (let some = pow_pos ring.power in omega (arith, some)) in
    omega (arith, below))
  where
    nothing : (n : ℕ) → nat_lt 0 n ≡ false → n ≡ 0
    nothing n h = grind (arith, nat_tests)

    row_calm : (ring : RingRecord) → is_assigned ring ≡ false → (partition : ℕ) →
        has_crowded ring.devices (row_of ring partition) ≡ false
    row_calm ring empty partition =
        none_below (λ replica. is_crowded ring.devices (row_of ring partition) replica
        (get_or (row_of ring partition) replica None)) (length (row_of ring partition))
        (λ replica lt.
        let below : replica < ring.replicas = omega (arith, lt, length-row_of ring partition) in
        let gone : seat ring partition replica ≡ None =
        slice_get_past ring.seats (partition * ring.replicas + replica) (let h =
        nothing (length ring.seats) empty in omega (arith, h)) in
        ap (is_crowded ring.devices (row_of ring partition) replica) (row_of_at ring partition
        replica below ∙ gone))

    none_crowded : (ring : RingRecord) → is_assigned ring ≡ false →
        count_by (has_crowded ring.devices) (rows_of ring) ≡ 0
    none_crowded ring empty = count_none (has_crowded ring.devices) (rows_of ring)
        (λ k d lt.
        let below : k < partition_count ring =
        omega (
          arith,
          lt,
          length-map-range_with_len (λ partition. row_of ring partition) 0
              (partition_count ring),
        ) in
        ap (has_crowded ring.devices) (get_or-map-range_with_len (λ partition. row_of ring
        partition) 0 (partition_count ring) k k d below (omega arith)) ∙ row_calm ring empty k)
