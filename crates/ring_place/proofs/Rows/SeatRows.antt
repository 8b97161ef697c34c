-- Rows of seats that stand one after another.
use Rattle.std.proofs.Common.{◌≡◌, ℕ, zero, suc, ◌+◌, ◌-◌, ◌*◌, ◌<◌, ◌≤◌, List, [], ◌∷◌, ◌++◌}
use Rattle.ring_words.specs.Limits.{most_partitions}
use Rattle.std.proofs.Common.{length, get_or, take, drop, map, Option, None, refl, sym, ap}
use Rattle.std.proofs.Common.{◌∙◌, arith}
use Rattle.std.specs.Prelude.{slice_get, slice_range}
use Rattle.std.specs.List.{flat_map, range_with_len}
use Rattle.std.proofs.Math.Nat.{mul-le-mul_right, add-mul}
use Rattle.std.proofs.Math.Seq.{take-add}
use Rattle.std.proofs.lemmas.List.{append-nil, append_assoc, get_or-drop, get_or-take, length-drop}
use Rattle.std.proofs.lemmas.List.{length-take-le, take_all}
use Rattle.std.proofs.lemmas.List.Elements.{filter_map-append}
use Rattle.std.proofs.lemmas.List.FromFn.{fill_by_all, get_or-map-range_with_len}
use Rattle.std.proofs.lemmas.List.FromFn.{length-map-range_with_len, map-range_with_len_more}
use Rattle.ring_model.specs.Ring.{RingRecord, partition_count, seat}
use Rattle.ring_share.specs.Crowd.{row_of, rows_of}
use Rattle.ring_place.specs.Inner.Rows.{rows_in}
use Rattle.ring_place.specs.Inner.SeatRows.{AreSeatRows}
use Rattle.ring_place.specs.Made.{row_at}
use Rattle.ring_room.specs.Rows.{devices_on}

-- a partition's seats lie within all seats
pub row_within : (partitions replicas partition : ℕ) → partition < partitions →
    partition * replicas + replicas ≤ partitions * replicas
row_within partitions replicas partition lt =
    let le : (partition + 1) * replicas ≤ partitions * replicas =
    mul-le-mul_right replicas (omega (arith, lt)) in
    omega (arith, le, add-mul partition 1 replicas)

-- and there are few of these
pub row_below : (seats : List (Option ℕ)) (partitions replicas partition : ℕ) →
    AreSeatRows seats partitions replicas → partition < partitions
    → (partition * replicas + replicas ≤ length seats) × (partition * replicas + replicas ≤ 81920)
row_below seats partitions replicas partition are lt =
    let within = row_within partitions replicas partition lt in
    let count = are.count in
    let most : partitions * replicas ≤ most_partitions * replicas =
    mul-le-mul_right replicas are.few_partitions in
    let few = are.few_replicas in
    (omega (arith, within, count), omega (arith, within, most, few))

pub length-rows_in : (seats : List (Option ℕ)) (partitions replicas : ℕ) →
    length (rows_in seats partitions replicas) ≡ partitions
length-rows_in seats partitions replicas =
    length-map-range_with_len (λ p. slice_range seats (p * replicas) (p * replicas + replicas)) 0
    partitions

pub row_at-rows_in : (seats : List (Option ℕ)) (partitions replicas partition : ℕ) →
    partition < partitions
    → row_at (rows_in seats partitions replicas) partition ≡ slice_range seats
    (partition * replicas) (partition * replicas + replicas)
row_at-rows_in seats partitions replicas partition lt =
    get_or-map-range_with_len (λ p. slice_range seats (p * replicas) (p * replicas + replicas)) 0
    partitions partition partition [] lt (omega arith)

width : (partition replicas : ℕ) → (partition * replicas + replicas) - partition * replicas ≡
    replicas
width partition replicas = omega arith

pub length_part : (seats : List (Option ℕ)) (first replicas : ℕ) → first + replicas ≤ length seats →
    length (slice_range seats first (first + replicas)) ≡ replicas
length_part seats first replicas le =
    let wide : (first + replicas) - first ≡ replicas = omega arith in
    length-take-le ((first + replicas) - first) (drop first seats) (omega (
      arith,
      le,
      wide,
      length-drop first seats,
    )) ∙ wide

pub part_at : (seats : List (Option ℕ)) (first replicas k : ℕ) (d : Option ℕ) → k < replicas →
    get_or (slice_range seats first (first + replicas)) k d ≡ get_or seats (first + k) d
part_at seats first replicas k d lt =
    let wide : (first + replicas) - first ≡ replicas = omega arith in
    get_or-take ((first + replicas) - first) (drop first seats) k d (omega (arith, lt, wide)) ∙
    get_or-drop first seats k d

-- so a partition's seats are, where contracts see rows
pub row_fits : (seats : List (Option ℕ)) (rows : List (List (Option ℕ)))
    (partitions replicas partition : ℕ) → rows_in seats partitions replicas ≡ rows →
    AreSeatRows seats partitions replicas → partition < length rows
    → (partition * replicas + replicas ≤ length seats) × (partition * replicas + replicas ≤ 81920)
row_fits seats rows partitions replicas partition view are lt =
    row_below seats partitions replicas partition are (omega (
      arith,
      lt,
      ap length view,
      length-rows_in seats partitions replicas,
    ))

-- the rows of a ring's seats
row_is : (ring : RingRecord) (seats : List (Option ℕ)) →
    seats ≡ map (λ place. slice_get ring.seats place)
    (range_with_len 0 (partition_count ring * ring.replicas))
    → (partition : ℕ) → partition < partition_count ring →
    slice_range seats (partition * ring.replicas) (partition * ring.replicas + ring.replicas) ≡
    row_of ring partition
row_is ring seats are partition lt =
    let within = row_within (partition_count ring) ring.replicas partition lt in
    let all = length-map-range_with_len (λ place. slice_get ring.seats place) 0
    (partition_count ring * ring.replicas) in
    let long = ap length are in
    fill_by_all (λ replica. seat ring partition replica)
    (slice_range seats (partition * ring.replicas) (partition * ring.replicas + ring.replicas))
    ring.replicas None
    (length_part seats (partition * ring.replicas) ring.replicas (omega (arith, within, all, long)))
    (λ k below.
    part_at seats (partition * ring.replicas) ring.replicas k None below
    ∙ ap (λ (s : List (Option ℕ)). get_or s (partition * ring.replicas + k) None) are
    ∙ get_or-map-range_with_len (λ place. slice_get ring.seats place) 0 (partition_count ring *
    ring.replicas) (partition * ring.replicas + k) (partition * ring.replicas + k) None
    (omega (arith, below, within)) (omega arith))

pub rows_of_ring : (ring : RingRecord) (seats : List (Option ℕ)) →
    seats ≡ map (λ place. slice_get ring.seats place)
    (range_with_len 0 (partition_count ring * ring.replicas))
    → rows_in seats (partition_count ring) ring.replicas ≡ rows_of ring
rows_of_ring ring seats are =
    fill_by_all (λ partition. row_of ring partition) (rows_in seats (partition_count ring)
    ring.replicas) (partition_count ring) [] (length-rows_in seats (partition_count ring)
    ring.replicas)
    (λ partition lt. row_at-rows_in seats (partition_count ring) ring.replicas partition lt ∙ row_is
    ring seats are partition lt)

-- the devices of all rows
flat_map-append : (xs ys : List (List (Option ℕ))) → flat_map devices_on (xs ++ ys) ≡ flat_map
    devices_on xs ++ flat_map devices_on ys
flat_map-append [] ys = refl
flat_map-append (x ∷ xs) ys = ap (λ zs. devices_on x ++ zs) (flat_map-append xs ys) ∙ sym
    (append_assoc (devices_on x) (flat_map devices_on xs) (flat_map devices_on ys))

first_rows : (seats : List (Option ℕ)) (replicas n : ℕ) →
    flat_map devices_on (rows_in seats n replicas) ≡ devices_on (take (n * replicas) seats)
first_rows seats replicas zero = let none : 0 * replicas ≡ 0 = omega arith in rw none refl
first_rows seats replicas (suc n) =
    let part = λ (p : ℕ). slice_range seats (p * replicas) (p * replicas + replicas) in
    let one : suc n ≡ n + 1 = omega arith in
    let next : (n + 1) * replicas ≡ n * replicas + replicas = add-mul n 1 replicas ∙ omega arith in
    let wide : (n * replicas + replicas) - n * replicas ≡ replicas = omega arith in
    ap (λ (k : ℕ). flat_map devices_on (rows_in seats k replicas)) one
    ∙ ap (flat_map devices_on) (map-range_with_len_more part 0 n n (omega arith))
    ∙ flat_map-append (rows_in seats n replicas) (part n ∷ [])
    ∙ ap (λ zs. flat_map devices_on (rows_in seats n replicas) ++
    zs) (append-nil (devices_on (part n)))
    ∙ ap (λ zs. zs ++ devices_on (part n)) (first_rows seats replicas n)
    ∙ ap (λ (k : ℕ). devices_on (take (n * replicas) seats) ++
    devices_on (take k (drop (n * replicas) seats))) wide
    ∙ sym (filter_map-append (λ (s : Option ℕ). s) (take (n * replicas) seats)
    (take replicas (drop (n * replicas) seats)))
    ∙ ap devices_on (sym (take-add (n * replicas) replicas seats))
    ∙ ap (λ (k : ℕ). devices_on (take k seats)) (sym next)
    ∙ ap (λ (k : ℕ). devices_on (take (k * replicas) seats)) (sym one)

pub all_devices : (seats : List (Option ℕ)) (partitions replicas : ℕ) →
    length seats ≡ partitions * replicas → devices_on seats ≡ flat_map devices_on
    (rows_in seats partitions replicas)
all_devices seats partitions replicas long =
    sym (first_rows seats replicas partitions ∙ ap devices_on (take_all (partitions * replicas)
    seats (omega (arith, long))))
