-- The rows of seats and of moves in a store of schema 1 stand for one list of rings at most.
use Rattle.std.proofs.Common.{◌≡◌, ◌∙◌, ℕ, ◌+◌, ◌^◌, pos, ℤ, Bool, true, List, [], ◌∷◌, ◌++◌, map}
use Rattle.std.proofs.Common.{Option, Some, None, Less, ap, arith, refl, subst, sym}
use Rattle.std.proofs.Common.{false, length}
use Rattle.std.specs.Prelude.{◌&&◌}
use Rattle.std.specs.List.{AllByRecursion, enumerate_from, flat_map}
use Rattle.std.specs.Ordering.{is_lt}
use Rattle.std.specs.FinMap.Entries.{below_all}
use Rattle.std.proofs.lemmas.Cmp.{tied_itself}
use Rattle.store_model.specs.Entries as rows
use Rattle.store_model.specs.Entries.{name_number_cmp, NameNumber, SeatKey}
use Rattle.store_model.proofs.Keys.{name_number_total}
use Rattle.store_rows.specs.RingRows.{NamedRings, part_entries, part_entries_of, part_entry, ring_entries}
use Rattle.store_rows.specs.RingRows.{ring_entry}
use Rattle.store_rows.specs.FirstRows.{moved_entries, moved_entry, seat_entries, seat_entry}
use Rattle.store_rows.specs.Stands.{IsNamedRing}
use Rattle.store_rows.proofs.FirstOrdered.{later_seats, moves_above, moves_named, seats_named, seats_of}
use Rattle.store_rows.proofs.OneRings.{parted, parted_by}
use Rattle.store_rows.proofs.Ordered.{NamedAs, NamedLater, Rising, later}

-- the rows of the seats of one ring are those of no other seats
one_seat_rows : (name : List ℕ) (replicas n : ℕ) (s t : List ℕ)
    → map (seat_entry name replicas) (enumerate_from n s) ≡ map (seat_entry name replicas)
    (enumerate_from n t) → s ≡ t
one_seat_rows name replicas n [] [] e = refl
one_seat_rows name replicas n [] (y ∷ t) e = cc
one_seat_rows name replicas n (x ∷ s) [] e = cc
one_seat_rows name replicas n (x ∷ s) (y ∷ t) e =
    let head : seat_entry name replicas (n, x) ≡ seat_entry name replicas (n, y) = cc in
    let tail : map (seat_entry name replicas) (enumerate_from (n + 1) s) ≡ map
    (seat_entry name replicas) (enumerate_from (n + 1) t) = cc in
    let value : pos x ≡ pos y = ap (λ (r : SeatKey × ℤ). r.1) head in
    let same : x ≡ y = cc in
    let rest = one_seat_rows name replicas (n + 1) s t tail in
    λ i. same i ∷ rest i

abbrev moves_of : List ℕ → ℕ → List (Option ℕ) → List (NameNumber × ℤ)
moves_of name n moved = flat_map (moved_entry name) (enumerate_from n moved)

first_of : (a b : Bool) → (a && b) ≡ true → a ≡ true
first_of true b h = refl
first_of false b h = h

-- a move of a partition is no move of a later one
not_later : (name : List ℕ) (n h : ℕ) (a : List (Option ℕ)) (rest : List (NameNumber × ℤ))
    → moves_of name (n + 1) a ≡ ((name, pos n), pos h) ∷ rest → ⊥
not_later name n h a rest e =
    let above : below_all name_number_cmp (name, pos n) (((name, pos n), pos h) ∷ rest) ≡ true =
    subst (λ es. below_all name_number_cmp (name, pos n) es ≡ true) e
    (moves_above name n (n + 1) a (omega arith)) in
    let less : is_lt (name_number_cmp (name, pos n) (name, pos n)) ≡ true = first_of _ _ above in
    let none : false ≡ true = sym (ap is_lt (tied_itself name_number_total (name, pos n))) ∙ less in
    cc

one_moves : (name : List ℕ) (n : ℕ) (a b : List (Option ℕ)) → length a ≡ length b
    → moves_of name n a ≡ moves_of name n b → a ≡ b
one_moves name n [] [] same e = refl
one_moves name n [] (y ∷ b) same e = absurd (omega (arith, same))
one_moves name n (x ∷ a) [] same e = absurd (omega (arith, same))
one_moves name n (None ∷ a) (None ∷ b) same e = ap (λ xs. None ∷ xs)
    (one_moves name (n + 1) a b (omega (arith, same)) e)
one_moves name n (None ∷ a) (Some k ∷ b) same e = absurd (not_later name n k a _ e)
one_moves name n (Some h ∷ a) (None ∷ b) same e = absurd (not_later name n h b _ (sym e))
one_moves name n (Some h ∷ a) (Some k ∷ b) same e =
    let head : ◌≡◌ {A = NameNumber × ℤ} ((name, pos n), pos h) ((name, pos n), pos k) = cc in
    let hour : pos h ≡ pos k = ap (λ (r : NameNumber × ℤ). r.1) head in
    let tail : moves_of name (n + 1) a ≡ moves_of name (n + 1) b = cc in
    let rest = one_moves name (n + 1) a b (omega (arith, same)) tail in
    let hours : h ≡ k = cc in
    λ i. Some (hours i) ∷ rest i

-- so the partitions have the same rows too
pub first_parts : (xs ys : NamedRings) → AllByRecursion IsNamedRing xs
    → AllByRecursion IsNamedRing ys → Rising xs → Rising ys → ring_entries xs ≡ ring_entries ys
    → seat_entries xs ≡ seat_entries ys → moved_entries xs ≡ moved_entries ys
    → part_entries xs ≡ part_entries ys
first_parts [] [] p q up vp rings seats moves = refl
first_parts [] (y ∷ ys) p q up vp rings seats moves = cc
first_parts (x ∷ xs) [] p q up vp rings seats moves = cc
first_parts (x ∷ xs) (y ∷ ys) p q up vp rings seats moves =
    let row : ring_entry x ≡ ring_entry y = cc in
    let behind : ring_entries xs ≡ ring_entries ys = cc in
    let name : y.0 ≡ x.0 = sym (ap (λ (r : List ℕ × rows.Ring). r.0) row) in
    let value = ap (λ (r : List ℕ × rows.Ring). r.1) row in
    let power : x.1.power ≡ y.1.power = (let h : pos x.1.power ≡ pos y.1.power =
    ap (λ (r : rows.Ring). r.power) value in cc) in
    let replicas : x.1.replicas ≡ y.1.replicas = (let h : pos x.1.replicas ≡ pos y.1.replicas =
    ap (λ (r : rows.Ring). r.replicas) value in cc) in
    let s = parted_by (λ (k : SeatKey). k.0) x.0 (seats_of x) (seat_entries xs) (seats_of y)
    (seat_entries ys) (seats_named x.0 x.1.replicas 0 x.1.seats) (later_seats x.0 xs up.0)
    (subst (λ n. AllByRecursion (λ (r : SeatKey × ℤ). r.0.0 ≡ n) (seats_of y)) name
    (seats_named y.0 y.1.replicas 0 y.1.seats))
    (subst (λ n. AllByRecursion (λ (r : SeatKey × ℤ). rows.name_cmp n r.0.0 ≡ Less)
    (seat_entries ys)) name (later_seats y.0 ys vp.0)) seats in
    let m = parted x.0 (moves_of x.0 0 x.1.moved) (moved_entries xs) (moves_of y.0 0 y.1.moved)
    (moved_entries ys) (moves_named x.0 0 x.1.moved)
    (later (λ e. moves_of e.0 0 e.1.moved) (λ e. moves_named e.0 0 e.1.moved) x.0 xs up.0)
    (subst (λ n. NamedAs n (moves_of y.0 0 y.1.moved)) name (moves_named y.0 0 y.1.moved))
    (subst (λ n. NamedLater n (moved_entries ys)) name
    (later (λ e. moves_of e.0 0 e.1.moved) (λ e. moves_named e.0 0 e.1.moved) y.0 ys vp.0)) moves in
    let same_seats : x.1.seats ≡ y.1.seats = one_seat_rows x.0 x.1.replicas 0 x.1.seats y.1.seats
    (s.0 ∙ ap (λ n. map (seat_entry n y.1.replicas) (enumerate_from 0 y.1.seats)) name
    ∙ ap (λ r. map (seat_entry x.0 r) (enumerate_from 0 y.1.seats)) (sym replicas)) in
    let count : length x.1.moved ≡ length y.1.moved = p.0.valid.moved
    ∙ ap (λ n. 2 ^ n) power ∙ sym q.0.valid.moved in
    let same_moves : x.1.moved ≡ y.1.moved = one_moves x.0 0 x.1.moved y.1.moved count
    (m.0 ∙ ap (λ n. moves_of n 0 y.1.moved) name) in
    let first : part_entries_of x ≡ part_entries_of y =
    ap (λ n. map (part_entry n x.1.replicas x.1.seats) (enumerate_from 0 x.1.moved)) (sym name)
    ∙ ap (λ r. map (part_entry y.0 r x.1.seats) (enumerate_from 0 x.1.moved)) replicas
    ∙ ap (λ t. map (part_entry y.0 y.1.replicas t) (enumerate_from 0 x.1.moved)) same_seats
    ∙ ap (λ hs. map (part_entry y.0 y.1.replicas y.1.seats) (enumerate_from 0 hs)) same_moves in
    let rest = first_parts xs ys p.1 q.1 up.1 vp.1 behind s.1 m.1 in
    ap (λ es. es ++ part_entries xs) first ∙ ap (λ es. part_entries_of y ++ es) rest
