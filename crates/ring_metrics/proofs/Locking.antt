-- How many partitions are locked for how long.
use Rattle.std.proofs.Common.{◌≡◌, ◌==◌, ◌∙◌, ℕ, ◌+◌, ◌<◌, ◌≤◌, All, Bool, true, false, Option, Some, None, List, [], ◌∷◌, ◌++◌, take}
use Rattle.std.proofs.Common.{ap, arith, cond, count_by, get_or, length, map, refl, sym, ⊎_elim}
use Rattle.std.specs.List.{filter}
use Rattle.std.specs.Prelude.{nat_lt}
use Rattle.std.specs.List.Sorted.{IsPermutation}
use Rattle.std.proofs.lemmas.Bool.{cases_eq, cases_lt, eq-eqb, le-ltb, lt-ltb, ltb-true, ne_eqb}
use Rattle.std.proofs.lemmas.List.{map_more}
use Rattle.std.proofs.lemmas.List.Elements.{All-head, All-tail, filter_passes, filter-append}
use Rattle.std.proofs.lemmas.List.Sorted.{All-permutation, sum_by-IsPermutation}
use Rattle.std.proofs.lemmas.List.Sums.{sum_by-cons, sum_by-le-sum_by}
use Rattle.ring_model.specs.Ring.{RingRecord}
use Rattle.ring_place.specs.Rebalance.{is_recent}
use Rattle.ring_metrics.specs.Inner.Ends.{AreEndsOf, left_hours, times}
use Rattle.ring_metrics.specs.Locks.{AreLockEnds, IsRest, ending_count, hours_left, locked_count, longest}
use Rattle.ring_metrics.specs.declared.locks.LockEnd.{LockEnd}
use Rattle.ring_metrics.proofs.Ending.{longest_within}
use Rattle.ring_metrics.proofs.Resting.{before_end, none_before}

-- a partition is locked for the hours that are left to it
recent_left : (min_hours hour later : ℕ) (moved : Option ℕ) →
    is_recent min_hours (hour + later) moved ≡ nat_lt later (hours_left min_hours hour moved)
recent_left min_hours hour later None = none_before later
recent_left min_hours hour later (Some moved) = before_end hour later (moved + min_hours)

filter_yes : {X : Type 0} (p : X → Bool) (x : X) (xs : List X) → p x ≡ true → filter p (x ∷ xs) ≡ x ∷ filter p xs
filter_yes p x xs is = ap (λ b. cond b (x ∷ filter p xs) (filter p xs)) is

filter_no : {X : Type 0} (p : X → Bool) (x : X) (xs : List X) → p x ≡ false → filter p (x ∷ xs) ≡ filter p xs
filter_no p x xs is = ap (λ b. cond b (x ∷ filter p xs) (filter p xs)) is

-- the hours of these partitions, but for those that are free
abbrev lefts_of : ℕ → ℕ → List (Option ℕ) → List ℕ
lefts_of min_hours hour moves = filter (nat_lt 0) (map (hours_left min_hours hour) moves)

-- those of one partition more
pub left_more : (left : Option ℕ → ℕ) (moves : List (Option ℕ)) (i one : ℕ) (before after : List ℕ) →
    i < length moves → before ≡ filter (nat_lt 0) (map left (take i moves)) →
    one ≡ left (get_or moves i None) → after ≡ before ++ filter (nat_lt 0) (one ∷ []) →
    after ≡ filter (nat_lt 0) (map left (take (i + 1) moves))
left_more left moves i one before after lt so_far is more =
    more ∙ ap (λ (xs : List ℕ). xs ++ filter (nat_lt 0) (one ∷ [])) so_far
    ∙ ap (λ (x : ℕ). filter (nat_lt 0) (map left (take i moves)) ++ filter (nat_lt 0) (x ∷ [])) is
    ∙ sym (ap (filter (nat_lt 0)) (map_more left moves i None lt)
    ∙ filter-append (nat_lt 0) (map left (take i moves)) (left (get_or moves i None) ∷ []))

-- what is counted of the hours of locked partitions
left_count : (min_hours hour : ℕ) (p : ℕ → Bool) (q : Option ℕ → Bool) → p 0 ≡ false →
    ((moved : Option ℕ) → q moved ≡ p (hours_left min_hours hour moved)) →
    (moves : List (Option ℕ)) → count_by p (lefts_of min_hours hour moves) ≡ count_by q moves
left_count min_hours hour p q none agree [] = refl
left_count min_hours hour p q none agree (moved ∷ moves) =
    let left = hours_left min_hours hour moved in
    let lefts = lefts_of min_hours hour moves in
    let rest = left_count min_hours hour p q none agree moves in
    let more = sum_by-cons (λ x. cond (q x) 1 0) moved moves in
    ⊎_elim
    (λ some.
    let kept : lefts_of min_hours hour (moved ∷ moves) ≡ left ∷ lefts =
    filter_yes (nat_lt 0) left (map (hours_left min_hours hour) moves) (lt-ltb 0 left some) in
    let counted = ap (count_by p) kept ∙ sum_by-cons (λ x. cond (p x) 1 0) left lefts in
    let same : ◌≡◌ {A = ℕ} (cond (p left) 1 0) (cond (q moved) 1 0) =
    ap (λ b. cond b 1 0) (sym (agree moved)) in
    omega (arith, counted, same, more, rest))
    (λ free.
    let dropped : lefts_of min_hours hour (moved ∷ moves) ≡ lefts =
    filter_no (nat_lt 0) left (map (hours_left min_hours hour) moves) (le-ltb 0 left free) in
    let zero_left : left ≡ 0 = omega (arith, free) in
    let same : ◌≡◌ {A = ℕ} (cond (q moved) 1 0) 0 =
    ap (λ b. cond b 1 0) (agree moved ∙ ap p zero_left ∙ none) in
    let counted = ap (count_by p) dropped in
    omega (arith, counted, same, more, rest))
    (cases_lt 0 left)

all_count : (p : ℕ → Bool) (xs : List ℕ) → All (λ x. p x ≡ true) xs → count_by p xs ≡ length xs
all_count p [] all = refl
all_count p (x ∷ xs) all =
    let first : ◌≡◌ {A = ℕ} (cond (p x) 1 0) 1 = ap (λ b. cond b 1 0) (All-head (λ k. p k ≡ true) x xs all) in
    let more = sum_by-cons (λ k. cond (p k) 1 0) x xs in
    let rest = all_count p xs (All-tail (λ k. p k ≡ true) x xs all) in
    omega (arith, first, more, rest)

none_count : (p : ℕ → Bool) (xs : List ℕ) → All (λ x. p x ≡ false) xs → count_by p xs ≡ 0
none_count p [] all = refl
none_count p (x ∷ xs) all =
    let first : ◌≡◌ {A = ℕ} (cond (p x) 1 0) 0 = ap (λ b. cond b 1 0) (All-head (λ k. p k ≡ false) x xs all) in
    let more = sum_by-cons (λ k. cond (p k) 1 0) x xs in
    let rest = none_count p xs (All-tail (λ k. p k ≡ false) x xs all) in
    omega (arith, first, more, rest)

permuted : (p : ℕ → Bool) (xs ys : List ℕ) → IsPermutation xs ys → count_by p ys ≡ count_by p xs
permuted p xs ys same = sum_by-IsPermutation (λ k. cond (p k) 1 0) xs ys same

-- a number above another is among those above it
times_within : (xs : List ℕ) (fewer v : ℕ) → fewer < v → times xs v ≤ count_by (nat_lt fewer) xs
times_within xs fewer v lt = sum_by-le-sum_by (λ k. cond (k == v) 1 0) (λ k. cond (nat_lt fewer k) 1 0) xs
    (λ k. ⊎_elim
    (λ same.
    let over : ◌≡◌ {A = ℕ} (cond (nat_lt fewer k) 1 0) 1 = ap (λ b. cond b 1 0)
    (lt-ltb fewer k (omega (arith, same, lt))) in
    let one : ◌≡◌ {A = ℕ} (cond (k == v) 1 0) 1 = ap (λ b. cond b 1 0) (eq-eqb k v same) in
    omega (arith, over, one))
    (λ other.
    let none : ◌≡◌ {A = ℕ} (cond (k == v) 1 0) 0 = ap (λ b. cond b 1 0) (ne_eqb k v other) in
    omega (arith, none))
    (cases_eq k v))

module _ (ring : RingRecord) (hour : ℕ) (sorted : List ℕ) (ends : List LockEnd)
    (same : IsPermutation (left_hours ring hour) sorted) (told : AreEndsOf sorted ends)
  where
    -- how many partitions are locked so many hours later
    later_count : (later : ℕ) → locked_count ring (hour + later) ≡ count_by (nat_lt later) sorted
    later_count later = sym (left_count ring.min_hours hour (nat_lt later) (is_recent ring.min_hours (hour + later))
        (sym (none_before later)) (recent_left ring.min_hours hour later) ring.moved)
        ∙ sym (permuted (nat_lt later) (left_hours ring hour) sorted same)

    all_positive : All (λ x. nat_lt 0 x ≡ true) sorted
    all_positive = All-permutation (λ x. nat_lt 0 x ≡ true) (left_hours ring hour) sorted same
        (filter_passes (nat_lt 0) (map (hours_left ring.min_hours hour) ring.moved))

    locked_now : locked_count ring hour ≡ length sorted
    locked_now =
        let now : hour ≡ hour + 0 = omega arith in
        ap (locked_count ring) now ∙ later_count 0 ∙ all_count (nat_lt 0) sorted all_positive

    some_hours : (v : ℕ) → 0 < times sorted v → 0 < v
    some_hours v some = ⊎_elim
        (λ above. above)
        (λ none.
        let zeros = none_count (λ k. k == v) sorted
        (λ k d lt. let up : 0 < get_or sorted k d = ltb-true 0 (get_or sorted k d) (all_positive k d lt) in
        ne_eqb (get_or sorted k d) v (λ e. omega (arith, e, up, none))) in
        absurd (omega (arith, zeros, some)))
        (cases_lt 0 v)

    ending : (v : ℕ) → 0 < v → times sorted v ≡ ending_count ring hour v
    ending v some = permuted (λ k. k == v) (left_hours ring hour) sorted same
        ∙ left_count ring.min_hours hour (λ k. k == v) (λ moved. hours_left ring.min_hours hour moved == v)
        (ne_eqb 0 v (λ e. omega (arith, e, some))) (λ moved. refl) ring.moved

    pub are_lock_ends : AreLockEnds ring hour ends
    are_lock_ends =
        let some : (k : ℕ) (d : LockEnd) → k < length ends → 0 < (get_or ends k d).hours =
        λ k d lt. some_hours (get_or ends k d).hours (omega (arith, told.some k d lt, told.counted k d lt)) in
        record {
          rise = told.rise;
          counted = λ k d lt. told.counted k d lt ∙ ending (get_or ends k d).hours (some k d lt);
          some = λ k d lt. (some k d lt, told.some k d lt);
          all = told.all ∙ sym locked_now;
        }

    pub is_rest : IsRest ring hour (longest ends)
    is_rest = record {
      over = later_count (longest ends) ∙ none_count (nat_lt (longest ends)) sorted
          (λ k d lt. le-ltb (longest ends) (get_or sorted k d) (told.most k d lt));
      not_before = λ fewer below. ⊎_elim
          (λ some. omega (arith, some, later_count fewer))
          (λ none.
          let bound = longest_within ends 0 fewer (omega arith)
          (λ k d lt. ⊎_elim
          (λ over. absurd (omega (
            arith,
            times_within sorted fewer (get_or ends k d).hours over,
            told.some k d lt,
            told.counted k d lt,
            none,
          )))
          (λ within. within)
          (cases_lt fewer (get_or ends k d).hours)) in
          absurd (omega (arith, bound, below)))
          (cases_lt 0 (count_by (nat_lt fewer) sorted));
    }
