-- The rows of seats and of moves stand in the order of their keys.
use Rattle.std.proofs.Common.{◌≡◌, inl, inr, ℕ, ◌+◌, ◌*◌, ◌/◌, ◌%◌, ◌<◌, ◌≤◌, ℤ, pos, true, List}
use Rattle.std.proofs.Common.{[], ◌∷◌, map, Option, Some, None, Less, refl, sym, ap}
use Rattle.std.proofs.Common.{◌∙◌, arith}
use Rattle.std.specs.List.{AllByRecursion, enumerate_from, flat_map}
use Rattle.std.specs.Ordering.{int_cmp, is_lt, ordering_then}
use Rattle.std.specs.Cmp.{int_cmp_total}
use Rattle.std.specs.FinMap.{is_sorted}
use Rattle.std.specs.FinMap.Entries.{below_all}
use Rattle.std.proofs.lemmas.Bool.{and_from, cases_lt}
use Rattle.std.proofs.lemmas.Cmp.{tied_itself}
use Rattle.std.proofs.lemmas.Nat.{div-add-mod', le-div}
use Rattle.ring_model.specs.Ring.{RingRecord}
use Rattle.store_model.specs.Entries.{name_cmp, name_number_cmp, numbers_cmp, SeatKey}
use Rattle.store_model.specs.Entries.{seat_cmp}
use Rattle.store_model.proofs.Keys.{name_total}
use Rattle.store_rows.specs.RingRows.{NamedRings}
use Rattle.store_rows.specs.FirstRows.{moved_entries, moved_entry, seat_entries, seat_entry}
use Rattle.store_rows.specs.Stands.{AreRings, IsNamedRing}
use Rattle.store_rows.proofs.Ordered.{all-append, below_from, each_of, int_less, NamedAs, Rising}
use Rattle.store_rows.proofs.Ordered.{sorted, sorted-append, up, weaker}

-- ---- seats

abbrev seat_key : List ℕ → ℕ → ℕ → SeatKey
seat_key name replicas seat = (name, (pos (seat / replicas), pos (seat % replicas)))

numbers_less : (a b c d : ℕ) → (a < b) → numbers_cmp (pos a, pos c) (pos b, pos d) ≡ Less
numbers_less a b c d less = ap (λ o. ordering_then o (int_cmp (pos c) (pos d))) (int_less a b less)

numbers_next : (a b c d : ℕ) → a ≡ b → c < d → numbers_cmp (pos a, pos c) (pos b, pos d) ≡ Less
numbers_next a b c d same less =
    ap (λ k. numbers_cmp (pos a, pos c) (pos k, pos d)) (sym same)
    ∙ ap (λ o. ordering_then o (int_cmp (pos c) (pos d))) (tied_itself int_cmp_total (pos a))
    ∙ int_less c d less

seat_less : (name : List ℕ) (replicas i j : ℕ) → 0 < replicas → i < j →
    seat_cmp (seat_key name replicas i) (seat_key name replicas j) ≡ Less
seat_less name replicas i j some less =
    ap (λ o. ordering_then o (numbers_cmp (seat_key name replicas i).1
    (seat_key name replicas j).1)) (tied_itself name_total name)
    ∙ elim (cases_lt (i / replicas) (j / replicas)) [
      | inl below ↦ numbers_less (i / replicas) (j / replicas) (i % replicas) (j % replicas) below
      | inr above ↦
          let first : i / replicas * replicas + i % replicas ≡ i = div-add-mod' i replicas in
          let second : j / replicas * replicas + j % replicas ≡ j = div-add-mod' j replicas in
          let most : i / replicas ≤ j / replicas = le-div (i / replicas) j replicas some
          (omega (arith, first)) in
          let same : i / replicas ≡ j / replicas = omega arith in
          let places : i / replicas * replicas ≡ j / replicas * replicas = ap (λ k. k * replicas)
          same in
          numbers_next (i / replicas) (j / replicas) (i % replicas) (j % replicas) same
          (omega (arith, first, second, places))
    ]

seats_above : (name : List ℕ) (replicas i n : ℕ) (seats : List ℕ) → 0 < replicas → i < n →
    below_all seat_cmp (seat_key name replicas i)
    (map (seat_entry name replicas) (enumerate_from n seats)) ≡ true
seats_above name replicas i n [] some less = refl
seats_above name replicas i n (s ∷ seats) some less =
    and_from _ _ (ap is_lt (seat_less name replicas i n some less))
    (seats_above name replicas i (n + 1) seats some (omega arith))

seats_up : (name : List ℕ) (replicas n : ℕ) (seats : List ℕ) → 0 < replicas →
    is_sorted seat_cmp (map (seat_entry name replicas) (enumerate_from n seats)) ≡ true
seats_up name replicas n [] some = refl
seats_up name replicas n (s ∷ seats) some =
    and_from _ _ (seats_above name replicas n (n + 1) seats some (omega arith))
    (seats_up name replicas (n + 1) seats some)

pub seats_named : (name : List ℕ) (replicas n : ℕ) (seats : List ℕ) →
    AllByRecursion (λ (x : SeatKey × ℤ). x.0.0 ≡ name)
    (map (seat_entry name replicas) (enumerate_from n seats))
seats_named name replicas n [] = tt
seats_named name replicas n (s ∷ seats) = (refl, seats_named name replicas (n + 1) seats)

abbrev pub seats_of : List ℕ × RingRecord → List (SeatKey × ℤ)
seats_of e = map (seat_entry e.0 e.1.replicas) (enumerate_from 0 e.1.seats)

pub later_seats : (name : List ℕ) (rings : NamedRings) →
    AllByRecursion (λ (x : List ℕ × RingRecord). name_cmp name x.0 ≡ Less) rings →
    AllByRecursion (λ (x : SeatKey × ℤ). name_cmp name x.0.0 ≡ Less) (flat_map seats_of rings)
later_seats name [] all = tt
later_seats name (e ∷ es) all = all-append (λ (x : SeatKey × ℤ). name_cmp name x.0.0 ≡ Less)
    (seats_of e) (flat_map seats_of es)
    (weaker _ _ (λ x h. ap (name_cmp name) h ∙ all.0) (seats_of e)
    (seats_named e.0 e.1.replicas 0 e.1.seats)) (later_seats name es all.1)

later_seat : (k l : SeatKey) → name_cmp k.0 l.0 ≡ Less → seat_cmp k l ≡ Less
later_seat k l h = ap (λ o. ordering_then o (numbers_cmp k.1 l.1)) h

all_seats : (rings : NamedRings) → Rising rings →
    AllByRecursion (λ (e : List ℕ × RingRecord). 0 < e.1.replicas) rings →
    is_sorted seat_cmp (flat_map seats_of rings) ≡ true
all_seats [] up each = refl
all_seats (e ∷ es) up each =
    let behind = later_seats e.0 es up.0 in
    sorted-append seat_cmp (seats_of e) (flat_map seats_of es)
    (seats_up e.0 e.1.replicas 0 e.1.seats each.0) (all_seats es up.1 each.1)
    (weaker _ _ (λ x h. below_from seat_cmp x.0 (flat_map seats_of es)
    (weaker _ _ (λ y l. later_seat x.0 y.0 (ap (λ n. name_cmp n y.0.0) h ∙ l))
    (flat_map seats_of es) behind)) (seats_of e) (seats_named e.0 e.1.replicas 0 e.1.seats))

-- ---- moves

pub moves_above : (name : List ℕ) (i n : ℕ) (moved : List (Option ℕ)) → i < n →
    below_all name_number_cmp (name, pos i) (flat_map (moved_entry name) (enumerate_from n moved)) ≡
    true
moves_above name i n [] less = refl
moves_above name i n (None ∷ moved) less = moves_above name i (n + 1) moved (omega arith)
moves_above name i n (Some hour ∷ moved) less =
    and_from _ _ (ap is_lt (ap (λ o. ordering_then o (int_cmp (pos i) (pos n)))
    (tied_itself name_total name) ∙ int_less i n less))
    (moves_above name i (n + 1) moved (omega arith))

moves_up : (name : List ℕ) (n : ℕ) (moved : List (Option ℕ)) →
    is_sorted name_number_cmp (flat_map (moved_entry name) (enumerate_from n moved)) ≡ true
moves_up name n [] = refl
moves_up name n (None ∷ moved) = moves_up name (n + 1) moved
moves_up name n (Some hour ∷ moved) = and_from _ _ (moves_above name n (n + 1) moved (omega arith))
    (moves_up name (n + 1) moved)

pub moves_named : (name : List ℕ) (n : ℕ) (moved : List (Option ℕ)) →
    NamedAs name (flat_map (moved_entry name) (enumerate_from n moved))
moves_named name n [] = tt
moves_named name n (None ∷ moved) = moves_named name (n + 1) moved
moves_named name n (Some hour ∷ moved) = (refl, moves_named name (n + 1) moved)

module _ (rings : NamedRings) (held : AreRings rings) where
  pub seats_sorted : is_sorted seat_cmp (seat_entries rings) ≡ true
  seats_sorted = all_seats rings (up rings held) (each_of {P = IsNamedRing} _ (λ e h. let some =
      h.valid.replicas.0 in omega arith) rings held.each)

  pub moved_sorted : is_sorted name_number_cmp (moved_entries rings) ≡ true
  moved_sorted = sorted (λ e. flat_map (moved_entry e.0) (enumerate_from 0 e.1.moved))
      (λ e. moves_named e.0 0 e.1.moved) rings (up rings held)
      (each_of {P = IsNamedRing} _ (λ e h. moves_up e.0 0 e.1.moved) rings held.each)
