-- How many seats of all partitions are on a device, before and after some are lifted.
use Rattle.std.proofs.Common.{◌≡◌, ◌==◌, ℕ, zero, suc, ◌<◌, ◌≤◌, cond, List, [], ◌∷◌, length}
use Rattle.std.proofs.Common.{sum_by, Option, refl, ap, ⊎_elim, arith}
use Rattle.std.proofs.lemmas.Bool.{eq-eqb}
use Rattle.std.proofs.lemmas.List.Sums.{sum_by-cons}
use Rattle.ring_share.specs.Crowd.{is_on, seats_on}
use Rattle.ring_room.proofs.Searching.LessCrowded.{seats_with}
use Rattle.ring_place.specs.Inner.Gathering.{Lifts}
use Rattle.ring_place.specs.Made.{row_at}
use Rattle.ring_place.proofs.Gathering.BothPasses.{IsKeptOf}

-- as many or fewer of each partition are as many or fewer of all
pub sum_fewer : (id : ℕ) (old new : List (List (Option ℕ))) → length new ≡ length old →
    ((p : ℕ) → p < length old → seats_on id (row_at new p) ≤ seats_on id (row_at old p))
    → sum_by (seats_on id) new ≤ sum_by (seats_on id) old
sum_fewer id [] [] same each = omega arith
sum_fewer id [] (n ∷ new) same each = absurd (omega (arith, same))
sum_fewer id (o ∷ old) [] same each = absurd (omega (arith, same))
sum_fewer id (o ∷ old) (n ∷ new) same each =
    let a = sum_by-cons (seats_on id) o old in
    let b = sum_by-cons (seats_on id) n new in
    let here : seats_on id n ≤ seats_on id o = each 0 (omega arith) in
    let rest = sum_fewer id old new (omega (arith, same)) (λ p lt. each (suc p) (omega (arith, lt)))
    in
    omega (arith, a, b, here, rest)

-- and fewer of one are fewer of all
pub sum_less : (id : ℕ) (old new : List (List (Option ℕ))) → length new ≡ length old →
    ((p : ℕ) → p < length old → seats_on id (row_at new p) ≤ seats_on id (row_at old p))
    → (p : ℕ) → p < length old → seats_on id (row_at new p) < seats_on id (row_at old p)
    → sum_by (seats_on id) new < sum_by (seats_on id) old
sum_less id [] new same each p lt less = absurd (omega (arith, lt))
sum_less id (o ∷ old) [] same each p lt less = absurd (omega (arith, same))
sum_less id (o ∷ old) (n ∷ new) same each zero lt less =
    let a = sum_by-cons (seats_on id) o old in
    let b = sum_by-cons (seats_on id) n new in
    let here : seats_on id n < seats_on id o = less in
    let rest = sum_fewer id old new (omega (arith, same)) (λ p lt. each (suc p) (omega (arith, lt)))
    in
    omega (arith, a, b, here, rest)
sum_less id (o ∷ old) (n ∷ new) same each (suc p) lt less =
    let a = sum_by-cons (seats_on id) o old in
    let b = sum_by-cons (seats_on id) n new in
    let here : seats_on id n ≤ seats_on id o = each 0 (omega arith) in
    let rest = sum_less id old new (omega (arith, same)) (λ q mt. each (suc q) (omega (arith, mt)))
    p (omega (arith, lt)) less in
    omega (arith, a, b, here, rest)

-- ---- one partition

-- a partition with a seat lifted has one less on its device
pub lifts_less : (old row : List (Option ℕ)) (replica id : ℕ) → Lifts old row replica id →
    seats_on id row < seats_on id old
lifts_less old row replica id lifts =
    let counted = seats_with old replica id id lifts.at in
    let one : ◌≡◌ {A = ℕ} (cond (id == id) 1 0) 1 = rw (eq-eqb id id refl) refl in
    let same = ap (seats_on id) lifts.lifted in
    omega (arith, counted, one, same)

-- and no more on any other
pub lifts_fewer : (old row : List (Option ℕ)) (replica id other : ℕ) → Lifts old row replica id →
    seats_on other row ≤ seats_on other old
lifts_fewer old row replica id other lifts =
    let counted = seats_with old replica id other lifts.at in
    let same = ap (seats_on other) lifts.lifted in
    omega (arith, counted, same)

-- so has one of which seats are lifted
pub kept_fewer : (id : ℕ) (old row : List (Option ℕ)) → length row ≡ length old → IsKeptOf old row →
    seats_on id row ≤ seats_on id old
kept_fewer id [] [] same kept = omega arith
kept_fewer id [] (r ∷ row) same kept = absurd (omega (arith, same))
kept_fewer id (o ∷ old) [] same kept = absurd (omega (arith, same))
kept_fewer id (o ∷ old) (r ∷ row) same kept =
    let a = sum_by-cons (λ (s : Option ℕ). cond (is_on (λ other. other == id) s) 1 0) o old in
    let b = sum_by-cons (λ (s : Option ℕ). cond (is_on (λ other. other == id) s) 1 0) r row in
    let rest = kept_fewer id old row (omega (arith, same)) (λ k. kept (suc k)) in
    let here : cond (is_on (λ other. other == id) r) 1 0 ≤ cond (is_on (λ other. other == id) o) 1 0
    = ⊎_elim
    (λ none. let read = ap {B = ℕ} (λ (s : Option ℕ). cond (is_on (λ other. other == id) s) 1 0) none
    in omega (arith, read))
    (λ as_was. let read = ap {B = ℕ} (λ (s : Option ℕ). cond (is_on (λ other. other == id) s) 1 0)
    as_was in omega (arith, read)) (kept 0) in
    omega (arith, a, b, here, rest)
