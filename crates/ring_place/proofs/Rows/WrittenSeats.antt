-- One seat that is written among the seats.
use Rattle.std.proofs.Common.{◌≡◌, ◌≢◌, ℕ, ◌+◌, ◌*◌, ◌<◌, ◌≤◌, List, [], length, get_or, set}
use Rattle.std.proofs.Common.{Option, None, sym, ap, ◌∙◌, ⊎_elim, arith}
use Rattle.std.specs.Prelude.{slice_range}
use Rattle.std.proofs.lemmas.Bool.{cases_eq, cases_lt}
use Rattle.std.proofs.lemmas.List.{ext_get_or, get_or-set_other, get_or-set_same, length-set}
use Rattle.ring_place.specs.Inner.Rows.{rows_in}
use Rattle.ring_place.specs.Inner.SeatRows.{AreSeatRows}
use Rattle.ring_place.specs.Made.{row_at}
use Rattle.ring_place.proofs.Rows.SeatRows.{length-rows_in, length_part, part_at, row_at-rows_in}
use Rattle.ring_place.proofs.Rows.SeatRows.{row_fits, row_within}
use Rattle.ring_place.proofs.Rows.WrittenRows.{rows_apart}

-- a row has as many seats as there are replicas
pub row_long : (seats : List (Option ℕ)) (rows : List (List (Option ℕ)))
    (partitions replicas partition : ℕ) → rows_in seats partitions replicas ≡ rows →
    AreSeatRows seats partitions replicas → partition < length rows →
    length (row_at rows partition) ≡ replicas
row_long seats rows partitions replicas partition view are lt =
    let within : partition < partitions = omega (
      arith,
      lt,
      ap length view,
      length-rows_in seats partitions replicas,
    ) in
    let fits = row_fits seats rows partitions replicas partition view are lt in
    ap length (ap (λ r. row_at r partition) (sym view)
    ∙ row_at-rows_in seats partitions replicas partition within)
    ∙ length_part seats (partition * replicas) replicas fits.0

-- a seat of a partition lies within all seats
pub seat_fits : (seats : List (Option ℕ)) (rows : List (List (Option ℕ)))
    (partitions replicas partition replica : ℕ) → rows_in seats partitions replicas ≡ rows →
    AreSeatRows seats partitions replicas → partition < length rows →
    replica < length (row_at rows partition)
    → (partition * replicas + replica < length seats) ×
    (partition * replicas + replicas ≤ 81920) × (replica < replicas)
seat_fits seats rows partitions replicas partition replica view are lt below =
    let fits = row_fits seats rows partitions replicas partition view are lt in
    let long = row_long seats rows partitions replicas partition view are lt in
    (omega (arith, fits.0, long, below), fits.1, omega (arith, long, below))

module _ (seats : List (Option ℕ)) (partitions replicas partition replica : ℕ) (seat : Option ℕ)
    (count : length seats ≡ partitions * replicas) (lt : partition < partitions)
    (below : replica < replicas) where
  within : (other : ℕ) → other < partitions → other * replicas + replicas ≤ length seats
  within other mt = omega (arith, count, row_within partitions replicas other mt)

  long : (other : ℕ) → other < partitions → length (slice_range
      (set seats (partition * replicas + replica) seat) (other * replicas)
      (other * replicas + replicas)) ≡ replicas
  long other mt = length_part (set seats (partition * replicas + replica) seat) (other * replicas)
      replicas (omega (
        arith,
        within other mt,
        length-set seats (partition * replicas + replica) seat,
      ))

  other_row : (other : ℕ) → other < partitions → other ≢ partition
      → slice_range (set seats (partition * replicas + replica) seat) (other * replicas)
      (other * replicas + replicas) ≡ slice_range seats (other * replicas)
      (other * replicas + replicas)
  other_row other mt ne =
      let two = length_part seats (other * replicas) replicas (within other mt) in
      ext_get_or None (slice_range (set seats (partition * replicas + replica) seat)
      (other * replicas) (other * replicas + replicas)) (slice_range seats (other * replicas)
      (other * replicas + replicas))
      (long other mt ∙ sym two)
      (λ k kt.
      let kb : k < replicas = omega (arith, kt, long other mt) in
      let apart : other * replicas + k ≢ partition * replicas + replica = ⊎_elim
      (λ before. λ same. omega (arith, same, kb, below, rows_apart replicas other partition before))
      (λ after. λ same. omega (
        arith,
        same,
        kb,
        below,
        rows_apart replicas partition other (omega (arith, after, ne)),
      ))
      (cases_lt other partition) in
      part_at (set seats (partition * replicas + replica) seat) (other * replicas) replicas k None
      kb
      ∙ get_or-set_other seats (partition * replicas + replica) (other * replicas + k) seat None
      apart
      ∙ sym (part_at seats (other * replicas) replicas k None kb))

  same_row : slice_range (set seats (partition * replicas + replica) seat) (partition * replicas)
      (partition * replicas + replicas) ≡ set (slice_range seats (partition * replicas)
      (partition * replicas + replicas)) replica seat
  same_row =
      let two = length_part seats (partition * replicas) replicas (within partition lt) in
      ext_get_or None (slice_range (set seats (partition * replicas + replica) seat)
      (partition * replicas) (partition * replicas + replicas)) (set (slice_range seats
      (partition * replicas) (partition * replicas + replicas)) replica seat)
      (long partition lt ∙ sym (length-set (slice_range seats (partition * replicas)
      (partition * replicas + replicas)) replica seat ∙ two))
      (λ k kt.
      let kb : k < replicas = omega (arith, kt, long partition lt) in
      part_at (set seats (partition * replicas + replica) seat) (partition * replicas) replicas k
      None kb
      ∙ ⊎_elim
      (λ same. ap (λ (j : ℕ). get_or (set seats (partition * replicas + replica) seat)
      (partition * replicas + j) None) same
      ∙ get_or-set_same seats (partition * replicas + replica) seat None
      (omega (arith, below, within partition lt))
      ∙ sym (ap (λ (j : ℕ). get_or (set (slice_range seats (partition * replicas)
      (partition * replicas + replicas)) replica seat) j None) same
      ∙ get_or-set_same (slice_range seats (partition * replicas)
      (partition * replicas + replicas)) replica seat None (omega (arith, below, two))))
      (λ other.
      let apart : partition * replicas + k ≢ partition * replicas + replica =
      (λ same. other (omega (arith, same))) in
      get_or-set_other seats (partition * replicas + replica) (partition * replicas + k) seat None
      apart
      ∙ sym (part_at seats (partition * replicas) replicas k None kb)
      ∙ sym (get_or-set_other (slice_range seats (partition * replicas)
      (partition * replicas + replicas)) replica k seat None other))
      (cases_eq k replica))

  seat_rows : rows_in (set seats (partition * replicas + replica) seat) partitions replicas ≡
      set (rows_in seats partitions replicas) partition (set (slice_range seats
      (partition * replicas) (partition * replicas + replicas)) replica seat)
  seat_rows =
      let one = length-rows_in (set seats (partition * replicas + replica) seat) partitions replicas
      in
      let two = length-rows_in seats partitions replicas in
      ext_get_or [] (rows_in (set seats (partition * replicas + replica) seat) partitions replicas)
      (set (rows_in seats partitions replicas) partition (set (slice_range seats
      (partition * replicas) (partition * replicas + replicas)) replica seat))
      (one ∙ sym (length-set (rows_in seats partitions replicas) partition (set (slice_range seats
      (partition * replicas) (partition * replicas + replicas)) replica seat) ∙ two))
      (λ k kt.
      let mt : k < partitions = omega (arith, kt, one) in
      row_at-rows_in (set seats (partition * replicas + replica) seat) partitions replicas k mt
      ∙ ⊎_elim
      (λ same. ap (λ (p : ℕ). slice_range (set seats (partition * replicas + replica) seat)
      (p * replicas) (p * replicas + replicas)) same
      ∙ same_row
      ∙ sym (ap (λ (p : ℕ). get_or (set (rows_in seats partitions replicas) partition
      (set (slice_range seats (partition * replicas) (partition * replicas + replicas)) replica
      seat)) p []) same
      ∙ get_or-set_same (rows_in seats partitions replicas) partition (set (slice_range seats
      (partition * replicas) (partition * replicas + replicas)) replica seat) []
      (omega (arith, two, lt))))
      (λ other. other_row k mt other ∙ sym (row_at-rows_in seats partitions replicas k mt) ∙ sym
      (get_or-set_other (rows_in seats partitions replicas) partition k (set (slice_range seats
      (partition * replicas) (partition * replicas + replicas)) replica seat) [] other))
      (cases_eq k partition))

-- what contracts see of it
pub seat_written : (seats : List (Option ℕ)) (rows : List (List (Option ℕ)))
    (partitions replicas partition replica : ℕ) (seat : Option ℕ) →
    rows_in seats partitions replicas ≡ rows → AreSeatRows seats partitions replicas →
    partition < length rows → replica < length (row_at rows partition)
    → rows_in (set seats (partition * replicas + replica) seat) partitions replicas ≡ set rows
    partition (set (row_at rows partition) replica seat)
seat_written seats rows partitions replicas partition replica seat view are lt below =
    let inside : partition < partitions = omega (
      arith,
      lt,
      ap length view,
      length-rows_in seats partitions replicas,
    ) in
    let fits = seat_fits seats rows partitions replicas partition replica view are lt below in
    seat_rows seats partitions replicas partition replica seat are.count inside fits.2
    ∙ ap (λ r. set (rows_in seats partitions replicas) partition (set r replica seat))
    (sym (row_at-rows_in seats partitions replicas partition inside))
    ∙ ap (λ rs. set rs partition (set (row_at rs partition) replica seat)) view
