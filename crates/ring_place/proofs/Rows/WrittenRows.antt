-- A row that is written among the seats.
use Rattle.std.proofs.Common.{◌≡◌, ◌≢◌, ℕ, ◌+◌, ◌-◌, ◌*◌, ◌<◌, ◌≤◌, List, [], ◌++◌, length, get_or}
use Rattle.std.proofs.Common.{take, drop, set, Option, None, Vec, Global, sym, ap, ◌∙◌, ⊎_elim}
use Rattle.std.proofs.Common.{arith}
use Rattle.std.specs.Prelude.{slice_range}
use Rattle.std.specs.Vec.{with_items}
use borrow.Rule.Slice.PartMut.{put_mid}
use Rattle.std.proofs.Math.Nat.{mul-le-mul_right, add-mul}
use Rattle.std.proofs.lemmas.Bool.{cases_eq, cases_lt}
use Rattle.std.proofs.lemmas.List.{ext_get_or, get_or-append_right, get_or-drop, get_or-set_other}
use Rattle.std.proofs.lemmas.List.{get_or-set_same, get_or-take, get_or_append_left, length-append}
use Rattle.std.proofs.lemmas.List.{length-drop, length-set, length-take-le, with_items_is}
use Rattle.std.proofs.lemmas.Slice.{between-put_mid}
use Rattle.ring_place.specs.Inner.Rows.{rows_in}
use Rattle.ring_place.specs.Inner.SeatRows.{AreSeatRows}
use Rattle.ring_place.specs.Made.{row_at}
use Rattle.ring_place.proofs.Rows.SeatRows.{length-rows_in, length_part, part_at, row_at-rows_in}
use Rattle.ring_place.proofs.Rows.SeatRows.{row_within}

module _ (first replicas : ℕ) (seats row : List (Option ℕ)) (within : first + replicas ≤ length
    seats) (long : length row ≡ replicas) where
  front : length (take first seats) ≡ first
  front = length-take-le first seats (omega arith)

  pub length-put : length (put_mid first replicas seats row) ≡ length seats
  length-put =
      let all = length-append (take first seats) (row ++ drop replicas (drop first seats)) in
      let back = length-append row (drop replicas (drop first seats)) in
      let rest = length-drop replicas (drop first seats) in
      let behind = length-drop first seats in
      omega (arith, all, back, rest, behind, front)

  before_put : (k : ℕ) → k < first → get_or (put_mid first replicas seats row) k None ≡ get_or seats
      k None
  before_put k lt = get_or_append_left (take first seats) (row ++ drop replicas (drop first seats))
      None k (omega (arith, lt, front)) ∙ get_or-take first seats k None lt

  after_put : (k : ℕ) → first + replicas ≤ k → get_or (put_mid first replicas seats row) k None ≡
      get_or seats k None
  after_put k le =
      let place : first + (replicas + ((k - first) - replicas)) ≡ k = omega arith in
      get_or-append_right (take first seats) (row ++ drop replicas (drop first seats)) first k None
      front (omega arith)
      ∙ get_or-append_right row (drop replicas (drop first seats)) replicas (k - first) None long
      (omega arith)
      ∙ get_or-drop replicas (drop first seats) ((k - first) - replicas) None ∙ get_or-drop first
      seats (replicas + ((k - first) - replicas)) None
      ∙ ap (λ (i : ℕ). get_or seats i None) place

-- rows apart have their seats apart
pub rows_apart : (replicas one other : ℕ) → one < other → one * replicas + replicas ≤ other * replicas
rows_apart replicas one other lt =
    let le : (one + 1) * replicas ≤ other * replicas = mul-le-mul_right replicas (omega (arith, lt))
    in
    omega (arith, le, add-mul one 1 replicas)

module _ (seats row : List (Option ℕ)) (partitions replicas partition : ℕ) (count : length seats ≡
    partitions * replicas) (lt : partition < partitions) (long : length row ≡ replicas) where
  width : (partition * replicas + replicas) - partition * replicas ≡ replicas
  width = omega arith

  here : partition * replicas + replicas ≤ length seats
  here = omega (arith, count, row_within partitions replicas partition lt)

  put : List (Option ℕ)
  put = put_mid (partition * replicas) replicas seats row

  other_row : (other : ℕ) → other < partitions → other ≢ partition
      → slice_range (put_mid (partition * replicas) replicas seats row) (other * replicas)
      (other * replicas + replicas) ≡ slice_range seats (other * replicas)
      (other * replicas + replicas)
  other_row other mt ne =
      let there : other * replicas + replicas ≤ length seats =
      omega (arith, count, row_within partitions replicas other mt) in
      let one = length_part (put_mid (partition * replicas) replicas seats row) (other * replicas)
      replicas (omega (
        arith,
        there,
        length-put (partition * replicas) replicas seats row here
            long,
      )) in
      let two = length_part seats (other * replicas) replicas there in
      ext_get_or None (slice_range (put_mid (partition * replicas) replicas seats row)
      (other * replicas) (other * replicas + replicas)) (slice_range seats (other * replicas)
      (other * replicas + replicas))
      (one ∙ sym two)
      (λ k below.
      let kt : k < replicas = omega (arith, below, one) in
      part_at (put_mid (partition * replicas) replicas seats row) (other * replicas) replicas k None
      kt
      ∙ ⊎_elim
      (λ before. before_put (partition * replicas) replicas seats row here long
      (other * replicas + k) (omega (arith, kt, rows_apart replicas other partition before)))
      (λ after. after_put (partition * replicas) replicas seats row here long (other * replicas + k)
      (omega (arith, kt, rows_apart replicas partition other (omega (arith, after, ne)))))
      (cases_lt other partition)
      ∙ sym (part_at seats (other * replicas) replicas k None kt))

  pub put_rows : rows_in (put_mid (partition * replicas) replicas seats row) partitions replicas ≡
      set (rows_in seats partitions replicas) partition row
  put_rows =
      let one = length-rows_in (put_mid (partition * replicas) replicas seats row) partitions
      replicas in
      let two = length-rows_in seats partitions replicas in
      ext_get_or [] (rows_in (put_mid (partition * replicas) replicas seats row) partitions
      replicas) (set (rows_in seats partitions replicas) partition row)
      (one ∙ sym (length-set (rows_in seats partitions replicas) partition row ∙ two))
      (λ k below.
      let kt : k < partitions = omega (arith, below, one) in
      row_at-rows_in (put_mid (partition * replicas) replicas seats row) partitions replicas k kt
      ∙ ⊎_elim
      (λ same. ap (λ (p : ℕ). slice_range (put_mid (partition * replicas) replicas seats row)
      (p * replicas) (p * replicas + replicas)) same
      ∙ between-put_mid (partition * replicas) replicas seats row (partition * replicas + replicas)
      (omega (arith, here)) (long ∙ sym width)
      ∙ sym (get_or-set_same (rows_in seats partitions replicas) partition row []
      (omega (arith, two, lt)))
      ∙ ap (λ (p : ℕ). get_or (set (rows_in seats partitions replicas) partition row) p [])
      (sym same))
      (λ other. other_row k kt other ∙ sym (row_at-rows_in seats partitions replicas k kt) ∙ sym
      (get_or-set_other (rows_in seats partitions replicas) partition k row [] other))
      (cases_eq k partition))

-- what a call leaves of the part of the seats that it got
module _ (seats : Vec (Option ℕ) Global) (rows : List (List (Option ℕ)))
    (partitions replicas partition : ℕ) (all new : List (Option ℕ))
    (view : rows_in seats.items partitions replicas ≡ rows) (are : AreSeatRows seats.items
    partitions replicas) (lt : partition < length rows) (at : all ≡ seats.items)
    (same : length new ≡ length (slice_range all (partition * replicas) (partition * replicas +
    replicas))) where
  inside : partition < partitions
  inside = omega (arith, lt, ap length view, length-rows_in seats.items partitions replicas)

  whole : partition * replicas + replicas ≤ length all
  whole = let count = are.count in omega (
    arith,
    count,
    ap length at,
    row_within partitions replicas
        partition inside,
  )

  long : length new ≡ replicas
  long = same ∙ length_part all (partition * replicas) replicas whole

  wide : (partition * replicas + replicas) - partition * replicas ≡ replicas
  wide = omega arith

  pub rows_written : rows_in (with_items seats (put_mid (partition * replicas)
      ((partition * replicas + replicas) - partition * replicas) all new)).items partitions replicas
      ≡ set rows partition new
  rows_written =
      let kept = length-put (partition * replicas) replicas all new whole long in
      let ok = seats.ok in
      ap (λ (k : ℕ). rows_in (with_items seats (put_mid (partition * replicas) k all new)).items
      partitions replicas) wide
      ∙ ap (λ s. rows_in s partitions replicas) (with_items_is seats (put_mid (partition * replicas)
      replicas all new) (omega (arith, kept, ap length at, ok)))
      ∙ put_rows all new partitions replicas partition (let count = are.count in
      omega (arith, count, ap length at)) inside long
      ∙ ap (λ s. set (rows_in s partitions replicas) partition new) at
      ∙ ap (λ r. set r partition new) view

  pub row_written : row_at (rows_in (with_items seats (put_mid (partition * replicas)
      ((partition * replicas + replicas) - partition * replicas) all new)).items partitions
      replicas) partition ≡ new
  row_written = ap (λ r. row_at r partition) rows_written ∙ get_or-set_same rows partition new [] lt

-- the part of the seats that a call gets
pub row_before : (seats : Vec (Option ℕ) Global) (rows : List (List (Option ℕ)))
    (partitions replicas partition : ℕ) (all : List (Option ℕ))
    → rows_in seats.items partitions replicas ≡ rows → AreSeatRows seats.items partitions replicas →
    partition < length rows → all ≡ seats.items
    → slice_range all (partition * replicas) (partition * replicas + replicas) ≡ row_at rows
    partition
row_before seats rows partitions replicas partition all view are lt at =
    let within : partition < partitions = omega (
      arith,
      lt,
      ap length view,
      length-rows_in seats.items partitions replicas,
    ) in
    ap (λ s. slice_range s (partition * replicas) (partition * replicas + replicas)) at ∙ sym
    (row_at-rows_in seats.items partitions replicas partition within) ∙ ap
    (λ r. row_at r partition) view
