-- Rows that are compared ring by ring with those of rings.
use Rattle.std.proofs.Common.{◌≡◌, ℕ, zero, suc, ◌+◌, ◌<◌, ◌≤◌, List, [], ◌∷◌, ◌++◌, map, length}
use Rattle.std.proofs.Common.{take, drop, get_or, refl, sym, ap, ◌∙◌, arith, append_assoc}
use Rattle.std.proofs.Common.{append-nil}
use Rattle.std.proofs.lemmas.List.{append_cancel_left, take_all}
use Rattle.std.specs.List.{flat_map}
use Rattle.std.specs.declared.rc.Rc.{Rc}
use Rattle.std.specs.declared.alloc.Global.{Global}
use Rattle.ring_model.specs.declared.ring.Ring.{Ring}
use Rattle.ring_model.specs.Ring.{RingRecord}
use Rattle.ring_model.specs.Rings.{seen}
use Rattle.store_rows.proofs.Steps.{seen_step}

-- Of rows in two parts, the first of which are as many as those of a list, which they begin with,
-- these stand for that list.
pub same_front : {R E : Type 0} (of : R → E) (front behind : List R) (a more : List E) →
    length front ≡ length a → map of (front ++ behind) ≡ a ++ more → map of front ≡ a
same_front of [] behind [] more long is = refl
same_front of [] behind (x ∷ a) more long is = absurd (omega (arith, long))
same_front of (r ∷ front) behind [] more long is = absurd (omega (arith, long))
same_front of (r ∷ front) behind (x ∷ a) more long is =
    let head : of r ≡ x = cc in
    let tail : map of (front ++ behind) ≡ a ++ more = cc in
    let shorter : length front ≡ length a = omega (arith, long) in
    λ i. head i ∷ same_front of front behind a more shorter tail i

-- Rows that begin with those of a list are no fewer.
pub long_enough : {R E : Type 0} (of : R → E) (all : List R) (a more : List E) →
    map of all ≡ a ++ more → length a ≤ length all
long_enough of all [] more is = omega arith
long_enough of [] (x ∷ a) more is = cc
long_enough of (r ∷ all) (x ∷ a) more is =
    let tail : map of all ≡ a ++ more = cc in
    let less : length a ≤ length all = long_enough of all a more tail in
    omega (arith, less)

module _ {E : Type 0} (rows_of : List ℕ × RingRecord → List E) where
  abbrev pub Held : Type 0
  Held = List ℕ × Rc Ring Global

  abbrev pub of_held : Held → List E
  of_held x = rows_of (x.0, x.1.value)

  abbrev pub of_all : List Held → List E
  of_all xs = flat_map rows_of (seen xs)

  -- The rows of all are those of the first ones, of the next one and of the rest.
  pub in_turn : (xs : List Held) (i : ℕ) (x : Held) → i < length xs → x ≡ get_or xs i x →
      of_all xs ≡ of_all (take i xs) ++ (of_held x ++ of_all (drop (suc i) xs))
  in_turn [] i x lt is = absurd (omega arith)
  in_turn (y ∷ ys) zero x lt is = ap (λ z. of_held z ++ of_all ys) (sym is)
  in_turn (y ∷ ys) (suc i) x lt is =
      ap (λ es. of_held y ++ es) (in_turn ys i x (omega arith) is)
      ∙ sym (append_assoc (of_held y) (of_all (take i ys)) (of_held x ++ of_all (drop (suc i) ys)))

  -- What is left behind the rows of the first ones begins with those of the next one.
  pub next_begins : {R : Type 0} (of : R → E) (all rest : List R) (xs : List Held) (i : ℕ) (x : Held)
      → i < length xs → x ≡ get_or xs i x → map of all ≡ of_all (take i xs) ++ map of rest →
      map of all ≡ of_all xs → map of rest ≡ of_held x ++ of_all (drop (suc i) xs)
  next_begins of all rest xs i x lt is so_far says =
      append_cancel_left (of_all (take i xs)) (map of rest) (of_held x ++ of_all (drop (suc i) xs))
      (sym so_far ∙ says ∙ in_turn xs i x lt is)

  -- One ring more was compared.
  pub one_more : {R : Type 0} (of : R → E) (all rest behind : List R) (xs : List Held) (i : ℕ)
      (x : Held) → i < length xs → x ≡ get_or xs i x →
      map of all ≡ of_all (take i xs) ++ map of rest → map of rest ≡ of_held x ++ map of behind →
      map of all ≡ of_all (take (i + 1) xs) ++ map of behind
  one_more of all rest behind xs i x lt is so_far next =
      so_far ∙ ap (λ es. of_all (take i xs) ++ es) next
      ∙ sym (append_assoc (of_all (take i xs)) (of_held x) (map of behind))
      ∙ ap (λ es. es ++ map of behind) (seen_step rows_of xs i x lt is (of_all (take i xs))
      (of_all (take i xs) ++ of_held x) refl refl)

  -- All were compared: the rows are those of all exactly where none is left.
  pub at_the_end : {R : Type 0} (of : R → E) (all rest : List R) (xs : List Held) (i : ℕ) →
      length xs ≤ i → map of all ≡ of_all (take i xs) ++ map of rest →
      (rest ≡ [] → map of all ≡ of_all xs) × (map of all ≡ of_all xs → rest ≡ [])
  at_the_end {R = R} of all rest xs i past so_far =
      let whole : map of all ≡ of_all xs ++ map of rest =
      so_far ∙ ap (λ ys. of_all ys ++ map of rest) (take_all i xs past) in (
        λ none. whole ∙ ap (λ (rs : List R). of_all xs ++ map of rs) none ∙ append-nil (of_all xs),
        λ says. nothing rest (append_cancel_left (of_all xs) (map of rest) []
            (sym whole ∙ says ∙ sym (append-nil (of_all xs)))),
      )
    where
      nothing : (rs : List R) → map of rs ≡ [] → rs ≡ []
      nothing [] is = refl
      nothing (r ∷ rs) is = cc
