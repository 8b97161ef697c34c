-- Seats and last moves, read from rows.
use Rattle.std.proofs.Common.{◌≡◌, ℕ, zero, suc, ◌+◌, ◌*◌, ◌/◌, ◌%◌, ◌<◌, ◌≤◌, ◌^◌, List, [], ◌∷◌}
use Rattle.std.proofs.Common.{◌++◌, map, take, drop, length, get_or, slice_get, Option, Some, None}
use Rattle.std.proofs.Common.{All, ℤ, pos, negsuc, to_z, of_z, w64, refl, sym, ap, ◌∙◌}
use Rattle.std.proofs.Common.{Err, arith}
use Rattle.std.proofs.lemmas.Int.{ints}
use Rattle.std.specs.List.{enumerate_from, flat_map}
use Rattle.ring_words.specs.Spelling.{Reads}
use Rattle.ring_words.specs.declared.spelling.SpellingFault.{SpellingFault}
use Rattle.ring_words.specs.declared.spelling.SpellingFault.TheVariants.{Bad, NoMemory}
use Rattle.store_model.specs.Contents.{moved_of, part_of}
use Rattle.store_model.specs.Entries as rows
use Rattle.store_model.specs.Entries.{NameNumber}
use Rattle.store_model.specs.declared.rows.PartRow.{PartRow}
use Rattle.store_model.specs.declared.rows.MovedRow.{MovedRow}
use Rattle.std.proofs.Math.Nat.{suc-mul, mul-le-mul_right}
use Rattle.std.proofs.Math.Seq.{take-add}
use Rattle.std.proofs.lemmas.List.{length-drop, length-map, take_all}
use Rattle.std.proofs.lemmas.List.FromFn.{length-enumerate_from}
use Rattle.std.proofs.lemmas.List.Elements.{All-drop, All-take, recursion_from_All}
use Rattle.store_rows.proofs.OneBook.{of_all}
use Rattle.store_rows.specs.RingRows.{hour_number, part_entry, stored_seats, two_bytes}
use Rattle.store_rows.specs.FirstRows.{moved_entry}
use Rattle.store_rows.specs.Inner.Found.{Places, StandForMove, StandForMoves, StandForParts}
use Rattle.ring_model.specs.Valid.{IsHour}

-- ---- two bytes a seat

pub bytes_count : (ids : List ℕ) → length (flat_map two_bytes ids) ≡ 2 * length ids
bytes_count [] = refl
bytes_count (id ∷ ids) = let h = bytes_count ids in
    ap (λ n. suc (suc n)) h ∙ (let g : suc (suc (2 * length ids)) ≡ 2 * suc (length ids) = omega
    arith in g)

seat_at : (ids : List ℕ) (p : ℕ) → p < length ids → take (suc p) ids ≡ take p ids ++
    (get_or (flat_map two_bytes ids) (2 * p) 0 * 256
    + get_or (flat_map two_bytes ids) (2 * p + 1) 0) ∷ []
seat_at [] p lt = absurd (omega arith)
seat_at (id ∷ ids) zero lt = ap (λ n. n ∷ []) (let h : id ≡ id / 256 * 256 + id % 256 = omega arith
    in h)
seat_at (id ∷ ids) (suc p) lt =
    let one : 2 * suc p ≡ suc (suc (2 * p)) = omega arith in
    let two : 2 * suc p + 1 ≡ suc (suc (2 * p + 1)) = omega arith in
    ap (λ ys. id ∷ ys) (seat_at ids p (omega arith))
    ∙ ap (λ k. (id ∷ take p ids) ++ (get_or (flat_map two_bytes (id ∷ ids)) k 0 * 256
    + get_or (flat_map two_bytes ids) (2 * p + 1) 0) ∷ []) (sym one)
    ∙ ap (λ k. (id ∷ take p ids) ++ (get_or (flat_map two_bytes (id ∷ ids)) (2 * suc p) 0 * 256
    + get_or (flat_map two_bytes (id ∷ ids)) k 0) ∷ []) (sym two)

-- the two bytes of a seat give the device on it
pub seat_more : (bytes ids : List ℕ) (p : ℕ) → bytes ≡ flat_map two_bytes ids →
    p < length bytes / 2 → take (p + 1) ids ≡ take p ids ++
    (get_or bytes (2 * p) 0 * 256 + get_or bytes (2 * p + 1) 0) ∷ []
seat_more bytes ids p is lt =
    let count = ap length is ∙ bytes_count ids in
    let next : p + 1 ≡ suc p = omega arith in
    ap (λ k. take k ids) next ∙ seat_at ids p (omega arith)
    ∙ ap (λ bs. take p ids ++ (get_or bs (2 * p) 0 * 256 + get_or bs (2 * p + 1) 0) ∷ []) (sym is)

pub seats_end : (bytes ids : List ℕ) (p : ℕ) → bytes ≡ flat_map two_bytes ids →
    length bytes / 2 ≤ p → length ids ≤ p
seats_end bytes ids p is past = let count = ap length is ∙ bytes_count ids in omega arith

-- ---- hours

pub hour_read : (hour : Option ℕ) (z : ℤ) → z ≡ hour_number hour → IsHour hour →
    to_z w64 (of_z w64 z) ≡ hour_number hour
hour_read None z is small =
    ap (λ y. to_z w64 (of_z w64 y)) is
    ∙ (let h : to_z w64 (of_z w64 (negsuc 0)) ≡ negsuc 0 = omega (arith, ints) in h)
hour_read (Some hour) z is small =
    ap (λ y. to_z w64 (of_z w64 y)) is
    ∙ (let h : to_z w64 (of_z w64 (pos hour)) ≡ pos hour = omega (arith, ints) in h)

-- ---- rows by place

-- a row stands for what stands at its place
module _ {A B C : Type 0} (f : A → C) (g : ℕ × B → C) where
  pub entry_at : (xs : List A) (ys : List B) (n i : ℕ) (x : A) →
      map f xs ≡ map g (enumerate_from n ys) → i < length xs → x ≡ get_or xs i x →
      (y : B) × (f x ≡ g (n + i, y)) × (take (suc i) ys ≡ take i ys ++ y ∷ [])
      × (slice_get ys i ≡ Some y)
  entry_at [] ys n i x is lt at = absurd (omega arith)
  entry_at (a ∷ xs) [] n i x is lt at = cc
  entry_at (a ∷ xs) (y ∷ ys) n zero x is lt at =
      let head : f a ≡ g (n, y) = cc in
      (y, ap f at ∙ head ∙ ap (λ k. g (k, y)) (let h : n ≡ n + 0 = omega arith in h), refl, refl)
  entry_at (a ∷ xs) (y ∷ ys) n (suc i) x is lt at =
      let tail : map f xs ≡ map g (enumerate_from (n + 1) ys) = cc in
      let more = entry_at xs ys (n + 1) i x tail (omega arith) at in (
        more.0,
        more.1 ∙ ap (λ k. g (k, more.0)) (let h : n + 1 + i ≡ n + suc i = omega arith in h),
        ap (λ zs. y ∷ zs) more.2,
        more.3,
      )

-- ---- rows of moves

-- the first of the rows of later partitions is that of a later one
pub first_later : (name : List ℕ) (n : ℕ) (hours : List (Option ℕ)) (e : NameNumber × ℤ)
    (rest : List (NameNumber × ℤ)) → flat_map (moved_entry name) (enumerate_from n hours) ≡ e ∷ rest
    → (q : ℕ) × (n ≤ q) × (q < n + length hours) × (e.0.1 ≡ pos q)
first_later name n [] e rest is = cc
first_later name n (None ∷ hours) e rest is =
    let more = first_later name (n + 1) hours e rest is in
    (more.0, omega (arith, more.1), omega (arith, more.2), more.3)
first_later name n (Some hour ∷ hours) e rest is =
    let same : ((name, pos n), pos hour) ≡ e = cc in
    (n, omega arith, omega arith, ap (λ (x : NameNumber × ℤ). x.0.1) (sym same))

same_part : (p q : ℕ) (y z : ℤ) → y ≡ pos p → z ≡ pos q → p < 2 ^ 32 → q < 2 ^ 32 →
    of_z w64 z ≡ of_z w64 y → q ≡ p
same_part p q y z is_p is_q small_p small_q same =
    let kept_p : to_z w64 (of_z w64 (pos p)) ≡ pos p = omega (arith, ints) in
    let kept_q : to_z w64 (of_z w64 (pos q)) ≡ pos q = omega (arith, ints) in
    let h : pos q ≡ pos p = sym kept_q ∙ ap (λ k. to_z w64 (of_z w64 k)) (sym is_q)
    ∙ ap (to_z w64) same ∙ ap (λ k. to_z w64 (of_z w64 k)) is_p ∙ kept_p in
    cc

-- where the first row is a partition's, the partition was moved at the row's hour
pub moved_there : (row : MovedRow) (rest rows : List MovedRow) (partition : ℕ) (hour : Option ℕ)
    (others : List (NameNumber × ℤ)) (y : ℤ) → StandForMove rows partition (hour, others) →
    rows ≡ row ∷ rest → y ≡ pos partition → of_z w64 row.part ≡ of_z w64 y →
    (h : ℕ) × (hour ≡ Some h) × (row.hour ≡ pos h) × (h < 2 ^ 32) × (others ≡ map moved_of rest)
moved_there row rest rows partition None others y stand is spelled same =
    let begins : flat_map (moved_entry stand.name) (enumerate_from (partition + 1) stand.others) ≡
    moved_of row ∷ map moved_of rest = sym (ap (map moved_of) (sym is) ∙ stand.is ∙ stand.later)
    in
    let first = first_later stand.name (partition + 1) stand.others (moved_of row)
    (map moved_of rest) begins in
    let few = stand.few in
    let one : first.0 ≡ partition = same_part partition first.0 y row.part spelled first.3
    (omega (arith, first.1, first.2)) (omega (arith, first.1, first.2)) same in
    absurd (omega (arith, first.1))
moved_there row rest rows partition (Some h) others y stand is spelled same =
    let begins : moved_of row ∷ map moved_of rest ≡ ((stand.name, pos partition), pos h) ∷ others =
    ap (map moved_of) (sym is) ∙ stand.is in
    let head : moved_of row ≡ ((stand.name, pos partition), pos h) = cc in
    let tail : map moved_of rest ≡ others = cc in
    (h, refl, ap (λ (e : NameNumber × ℤ). e.1) head, stand.hour, sym tail)

-- and reading its hour did not fail but for want of memory
pub hour_there : (row : MovedRow) (h : ℕ) (fault : SpellingFault) → row.hour ≡ pos h → h < 2 ^ 32 →
    Reads {X = ℕ} (λ n. (to_z w64 (of_z w64 row.hour) ≡ pos n) × (n < 2 ^ 32)) (Err fault) →
    fault ≡ Bad → ⊥
hour_there row h Bad is small reads bad =
    reads h (
      ap (λ y. to_z w64 (of_z w64 y)) is
          ∙ (let g : to_z w64 (of_z w64 (pos h)) ≡ pos h = omega (arith, ints) in g),
      small,
    )
hour_there row h NoMemory is small reads bad = cc

-- the hours of a list are hours
pub hour_of_all : (hours : List (Option ℕ)) (i : ℕ) (hour : Option ℕ) → All IsHour hours →
    slice_get hours i ≡ Some hour → IsHour hour
hour_of_all hours i hour all at = of_all IsHour hours i hour (recursion_from_All IsHour hours all) at

-- the rows from a partition on
pub rows_from : (name : List ℕ) (p : ℕ) (hours : List (Option ℕ)) → p < length hours →
    (hour : Option ℕ) × (take (p + 1) hours ≡ take p hours ++ hour ∷ [])
    × (drop p hours ≡ hour ∷ drop (p + 1) hours) × (slice_get hours p ≡ Some hour)
rows_from name p [] lt = absurd (omega arith)
rows_from name zero (hour ∷ hours) lt = (hour, refl, refl, refl)
rows_from name (suc p) (hour ∷ hours) lt =
    let more = rows_from name p hours (omega arith) in
    let next : suc p + 1 ≡ suc (p + 1) = omega arith in (
      more.0,
      ap (λ k. take k (hour ∷ hours)) next ∙ ap (λ ys. hour ∷ ys) more.1,
      more.2 ∙ ap (λ k. more.0 ∷ drop k (hour ∷ hours)) (sym next),
      more.3,
    )

-- the first rows from a partition on are those of its last move
pub move_next : (rs : List MovedRow) (all : List MovedRow) (partitions p : ℕ)
    (v : List (Option ℕ)) (stand : StandForMoves all partitions v) → p < partitions →
    partitions ≤ 2 ^ 32 →
    map moved_of rs ≡ flat_map (moved_entry stand.name) (enumerate_from p (drop p v)) →
    (hour : Option ℕ) × (take (p + 1) v ≡ take p v ++ hour ∷ []) × StandForMove rs p (
      hour,
      flat_map (moved_entry stand.name) (enumerate_from (p + 1) (drop (p + 1) v)),
    )
move_next rs all partitions p v stand lt few is =
    let within : p < length v = let count = stand.count in omega arith in
    let from = rows_from stand.name p v within in (
      from.0,
      from.1,
      record {
        name = stand.name;
        is = is ∙ ap (λ hs. flat_map (moved_entry stand.name) (enumerate_from p hs)) from.2;
        others = drop (p + 1) v;
        later = refl;
        few = let count = length-drop (p + 1) v in let all_of = stand.count in omega arith;
        hour = hour_of_all v p from.0 stand.hours from.3;
      },
    )

-- the row of a partition has its devices and the hour of its last move
pub part_there : (rs : List PartRow) (places : Places) (stand : StandForParts rs places)
    (i : ℕ) (row : PartRow) → i < length rs → row ≡ get_or rs i row →
    (hour : Option ℕ) × (row.hour ≡ hour_number hour) × IsHour hour
    × (take (i + 1) places.1 ≡ take i places.1 ++ hour ∷ [])
    × (row.devices.items ≡ flat_map two_bytes
    (take stand.replicas (drop (i * stand.replicas) places.0)))
part_there rs places stand i row lt at =
    let there = entry_at part_of (part_entry stand.name stand.replicas places.0) rs places.1 0 i
    row stand.is lt at in
    let next : i + 1 ≡ suc i = omega arith in
    let place : 0 + i ≡ i = omega arith in (
      there.0,
      ap (λ (e : NameNumber × rows.Part). e.1.hour) there.1,
      hour_of_all places.1 i there.0 stand.hours there.3,
      ap (λ k. take k places.1) next ∙ there.2,
      ap (λ (e : NameNumber × rows.Part). e.1.devices) there.1
          ∙ ap (stored_seats stand.replicas places.0) place,
    )

pub seats_then : (seats : List ℕ) (replicas i : ℕ) → take ((i + 1) * replicas) seats ≡
    take (i * replicas) seats ++ take replicas (drop (i * replicas) seats)
seats_then seats replicas i =
    let next : i + 1 ≡ suc i = omega arith in
    ap (λ (k : ℕ). take (k * replicas) seats) next ∙ ap (λ k. take k seats) (suc-mul i replicas)
    ∙ take-add (i * replicas) replicas seats

enough : (seats : List ℕ) (count i replicas : ℕ) → count ≤ i →
    (0 < length seats → length seats ≡ count * replicas) → take (i * replicas) seats ≡ seats
enough [] count i replicas le whole = take_all (i * replicas) [] (omega arith)
enough (s ∷ ss) count i replicas le whole =
    let all = whole (omega arith) in
    let more = mul-le-mul_right replicas le in
    take_all (i * replicas) (s ∷ ss) (omega arith)

-- all seats, where all partitions were read
pub all_seats : (rs : List PartRow) (places : Places) (stand : StandForParts rs places) (i : ℕ) →
    length rs ≤ i → (take (i * stand.replicas) places.0 ≡ places.0) × (take i places.1 ≡ places.1)
all_seats rs places stand i past =
    let count : length rs ≡ length places.1 = sym (length-map rs part_of) ∙ ap length stand.is
    ∙ length-map (enumerate_from 0 places.1) (part_entry stand.name stand.replicas places.0)
    ∙ length-enumerate_from 0 places.1 in (
      enough places.0 (length places.1) i stand.replicas (omega arith) stand.whole,
      take_all i places.1 (omega arith),
    )

pub small_seats : (seats : List ℕ) (m n : ℕ) → All (λ (id : ℕ). id < 2 ^ 16) seats →
    All (λ (id : ℕ). id < 2 ^ 16) (take m (drop n seats))
small_seats seats m n all = All-take (λ (id : ℕ). id < 2 ^ 16) m (drop n seats) (All-drop (λ (id : ℕ). id < 2 ^ 16) n seats all)
