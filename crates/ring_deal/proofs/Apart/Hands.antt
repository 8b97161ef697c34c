-- What a hand takes of devices whose cards lie next to one another, as those of a tier do.
use Rattle.std.proofs.Common.{◌≡◌, ◌==◌, ◌∙◌, ℕ, zero, suc, ◌+◌, ◌-◌, ◌*◌, ◌/◌, ◌<◌, ◌≤◌, Bool, true, false}
use Rattle.std.proofs.Common.{All, List, [], ◌∷◌, ◌++◌, ap, arith, cond, count_by, get_or, length, min}
use Rattle.std.proofs.Common.{refl, replicate, subst, sum_by, sym, take, ⊎_elim}
use Rattle.std.specs.List.{range_with_len}
use Rattle.std.specs.List.Sorted.{IsPermutation}
use Rattle.std.proofs.Math.Nat.{add-mul}
use Rattle.std.proofs.Math.Seq.{take-length}
use Rattle.std.proofs.lemmas.Bool.{cases_lt, eq-eqb, ne_eqb}
use Rattle.std.proofs.lemmas.List.{get_or-append_right, get_or-replicate, get_or_append_left}
use Rattle.std.proofs.lemmas.List.{length-append, length-replicate}
use Rattle.std.proofs.lemmas.List.Elements.{All-head, All-tail}
use Rattle.std.proofs.lemmas.List.Folds.{sum_by-replicate}
use Rattle.std.proofs.lemmas.List.Sorted.{sum_by-IsPermutation}
use Rattle.std.proofs.lemmas.List.Sums.{sum_by-append, sum_by-cons, sum_by_more}
use Rattle.ring_room.specs.Steps.{after_steps}
use Rattle.ring_room.proofs.Steps.{steps_more, steps_none}
use Rattle.ring_deal.specs.Hand.{Taking, take_at, taken_of}
use Rattle.ring_deal.specs.Inner.Going.{IsTaking, cards_in}
use Rattle.ring_deal.proofs.Apart.Runs.{IsRun, run_sum}
use Rattle.ring_deal.proofs.Rounds.{sum_both, sum_none, sum_same, sum_suc}
use Rattle.ring_deal.proofs.Taken.{IsShare, shared, taking_all}

-- ---- what devices that pass a test have together

-- how many cards the devices that pass a test have left together
abbrev pub left_with : (ℕ → Bool) → List ℕ → ℕ → ℕ
left_with test left count = sum_by (λ place. cond (test place) (get_or left place 0) 0)
    (range_with_len 0 count)

-- one number alone
one_before : (g : ℕ → ℕ) (x n : ℕ) → n ≤ x → sum_by (λ place. cond (x == place) (g place) 0)
    (range_with_len 0 n) ≡ 0
one_before g x zero le = refl
one_before g x (suc n) le =
    let f : ℕ → ℕ = λ place. cond (x == place) (g place) 0 in
    let none : f n ≡ 0 = ap (λ b. cond b (g n) 0) (ne_eqb x n (λ same. omega (arith, same, le))) in
    omega (arith, sum_suc f n, none, one_before g x n (omega (arith, le)))

one_alone : (g : ℕ → ℕ) (x n : ℕ) → x < n → sum_by (λ place. cond (x == place) (g place) 0)
    (range_with_len 0 n) ≡ g x
one_alone g x zero lt = absurd (omega (arith, lt))
one_alone g x (suc n) lt =
    let f : ℕ → ℕ = λ place. cond (x == place) (g place) 0 in
    ⊎_elim
    (λ before.
    let none : f n ≡ 0 = ap (λ b. cond b (g n) 0) (ne_eqb x n (λ same. omega (arith, same, before))) in
    omega (arith, sum_suc f n, none, one_alone g x n before))
    (λ last.
    let same : x ≡ n = omega (arith, last, lt) in
    let here : f n ≡ g n = ap (λ b. cond b (g n) 0) (eq-eqb x n same) in
    let is : g x ≡ g n = ap g same in
    omega (arith, sum_suc f n, here, is, one_before g x n last))
    (cases_lt x n)

both_with : (b : Bool) (x y : ℕ) → cond b (x + y) 0 ≡ cond b x 0 + cond b y 0
both_with true x y = refl
both_with false x y = omega arith

none_with : (b : Bool) → ◌≡◌ {A = ℕ} (cond b 0 0) 0
none_with true = refl
none_with false = refl

turned_with : (a b : Bool) → ◌≡◌ {A = ℕ} (cond a (cond b 1 0) 0) (cond b (cond a 1 0) 0)
turned_with true true = refl
turned_with true false = refl
turned_with false true = refl
turned_with false false = refl

-- the cards of a hand that pass a test, by their devices
cards_by_device : (test : ℕ → Bool) (n : ℕ) (hand : List ℕ) → All (λ place. place < n) hand →
    sum_by (λ place. cond (test place) (cards_in hand place) 0) (range_with_len 0 n) ≡ count_by test
    hand
cards_by_device test n [] within = sum_same (λ place. cond (test place) 0 0) (λ place. 0)
    (λ place. none_with (test place)) (range_with_len 0 n) ∙ sum_none (range_with_len 0 n)
cards_by_device test n (x ∷ hand) within =
    let one : ℕ → ℕ = λ place. cond (x == place) (cond (test place) 1 0) 0 in
    let rest : ℕ → ℕ = λ place. cond (test place) (cards_in hand place) 0 in
    let parts : sum_by (λ place. cond (test place) (cards_in (x ∷ hand) place) 0)
    (range_with_len 0 n) ≡ sum_by (λ place. one place + rest place) (range_with_len 0 n) =
    sum_same (λ place. cond (test place) (cards_in (x ∷ hand) place) 0) (λ place. one place + rest
    place) (λ place. ap (λ c. cond (test place) c 0) (sum_by-cons (λ k. cond (k == place) 1 0) x hand)
    ∙ both_with (test place) (cond (x == place) 1 0) (cards_in hand place)
    ∙ ap (λ c. c + rest place) (turned_with (test place) (x == place))) (range_with_len 0 n) in
    let both = sum_both one rest (range_with_len 0 n) in
    let alone = one_alone (λ place. cond (test place) 1 0) x n
    (All-head (λ place. place < n) x hand within) in
    let old = cards_by_device test n hand (All-tail (λ place. place < n) x hand within) in
    let counted = sum_by-cons (λ k. cond (test k) 1 0) x hand in
    omega (arith, parts, both, alone, old, counted)

-- ---- a hand

-- A hand's cards of these devices lie within so many of its cards, and they keep no more than the
-- later hands can share so.
pub record IsShared (test : ℕ → Bool) (later size most count : ℕ) (taken : Taking) : Type 0 where
  pub first : ℕ
  pub run : (k : ℕ) → k < length taken.hand → test (get_or taken.hand k 0) ≡ true → (first ≤ k) ×
      (k < first + size * most)
  pub rest : left_with test taken.left count ≤ later * (size * most)

times_with : (b : Bool) (n : ℕ) → n * cond b 1 0 ≡ cond b n 0
times_with true n = omega arith
times_with false n = omega arith

module _ (later size : ℕ) (order left : List ℕ) (permutes : IsPermutation
    (range_with_len 0 (length left)) order) (each : All (λ cards. cards ≤ (later + 1) * size) left)
    (test : ℕ → Bool) (run : IsRun (λ n. test (get_or order n 0)) (length order)) where
  abbrev pub first : Taking
  first = record { hand = []; left = left; passed = 0 }

  abbrev pub now : ℕ → Taking
  now n = after_steps (take_at (later + 1) order) n first

  abbrev pub hand : ℕ → List ℕ
  hand n = (now n).hand

  -- what the device at a place of the order gives
  abbrev pub given : ℕ → ℕ
  given n = ((now n).passed + get_or (now n).left (get_or order n 0) 0) / (later + 1)

  taking : (n : ℕ) → n ≤ length order → IsTaking later size order left n (now n)
  taking n le = taking_all later size order left permutes each n le

  hand_none : hand 0 ≡ []
  hand_none = ap (λ (t : Taking). t.hand) (sym (steps_none (take_at (later + 1) order) first))

  hand_more : (n : ℕ) → hand (n + 1) ≡ hand n ++ replicate (given n) (get_or order n 0)
  hand_more n = ap (λ (t : Taking). t.hand) (sym (steps_more (take_at (later + 1) order) n first
      (now n) (take_at (later + 1) order n (now n)) refl refl))

  -- so many cards lie before those of the device at a place of the order
  abbrev pub before : ℕ → ℕ
  before n = length (hand n)

  before_more : (n : ℕ) → before (n + 1) ≡ before n + given n
  before_more n = ap length (hand_more n) ∙ length-append (hand n) (replicate (given n)
      (get_or order n 0)) ∙ ap (λ k. before n + k) (length-replicate (given n) (get_or order n 0))

  before_rises : (n d : ℕ) → before n ≤ before (n + d)
  before_rises n zero = let same : before (n + 0) ≡ before n = ap before (omega arith) in
      omega (arith, same)
  before_rises n (suc d) =
      let same : before (n + suc d) ≡ before (n + d + 1) = ap before (omega arith) in
      omega (arith, same, before_more (n + d), before_rises n d)

  before_up : (n m : ℕ) → n ≤ m → before n ≤ before m
  before_up n m le =
      let same : before (n + (m - n)) ≡ before m = ap before (omega (arith, le)) in
      omega (arith, same, before_rises n (m - n))

  -- A card is of the device at a place of the order, and lies after those of the earlier ones.
  record CameFrom (n k : ℕ) : Type 0 where
    at : ℕ
    below : at < n
    is : get_or (hand n) k 0 ≡ get_or order at 0
    after : before at ≤ k
    within : k < before (at + 1)

  came_more : (n k : ℕ) → k < before (n + 1) → (k < before n → CameFrom n k) → CameFrom (n + 1) k
  came_more n k lt old =
      let same : get_or (hand (n + 1)) k 0 ≡ get_or (hand n ++ replicate (given n) (get_or order n 0)) k
      0 = ap (λ (xs : List ℕ). get_or xs k 0) (hand_more n) in
      ⊎_elim
      (λ early. let was = old early in let at_below = was.below in record {
        at = was.at;
        below = omega (arith, at_below);
        is = same ∙ get_or_append_left (hand n) (replicate (given n) (get_or order n 0)) 0 k early
            ∙ was.is;
        after = was.after;
        within = was.within;
      })
      (λ new. let here : k - before n < given n = omega (arith, lt, before_more n, new) in record {
        at = n;
        below = omega arith;
        is = same ∙ get_or-append_right (hand n) (replicate (given n) (get_or order n 0)) (before n) k
            0 refl new ∙ get_or-replicate (given n) (k - before n) (get_or order n 0) 0 here;
        after = new;
        within = lt;
      })
      (cases_lt k (before n))

  came_from : (n k : ℕ) → k < before n → CameFrom n k
  came_from zero k lt = absurd (let none = ap length hand_none in omega (arith, lt, none))
  came_from (suc n) k lt =
      let up : n + 1 ≡ suc n = omega arith in
      subst (λ j. CameFrom j k) up (came_more n k (subst (λ j. k < before j) (sym up) lt)
      (λ early. came_from n k early))

  -- so the cards of these devices lie next to one another
  in_run : (k : ℕ) → k < before (length order) → test (get_or (hand (length order)) k 0) ≡ true →
      (before run.from ≤ k) × (k < before run.to)
  in_run k lt is =
      let came = came_from (length order) k lt in
      let inside = run.only came.at came.below (ap test (sym came.is) ∙ is) in
      let low = before_up run.from came.at inside.0 in
      let high = before_up (came.at + 1) run.to (let below = inside.1 in omega (arith, below)) in
      let after = came.after in
      let within = came.within in
      (omega (arith, low, after), omega (arith, high, within))

  -- how many they are
  abbrev pub given_all : ℕ
  given_all = count_by test (hand (length order))

  given_none : count_by test (hand 0) ≡ 0
  given_none = ap (λ (xs : List ℕ). count_by test xs) hand_none

  given_more : (n : ℕ) → count_by test (hand (n + 1)) ≡ count_by test (hand n) + cond
      (test (get_or order n 0)) (given n) 0
  given_more n = ap (λ (xs : List ℕ). count_by test xs) (hand_more n)
      ∙ sum_by-append (λ x. cond (test x) 1 0) (hand n) (replicate (given n) (get_or order n 0))
      ∙ ap (λ k. count_by test (hand n) + k) (sum_by-replicate (λ x. cond (test x) 1 0) (given n)
      (get_or order n 0) ∙ times_with (test (get_or order n 0)) (given n))

  ended_from : min (length order) run.from ≡ run.from
  ended_from = let rises = run.rises in let within = run.within in omega (arith, rises, within)

  ended_to : min (length order) run.to ≡ run.to
  ended_to = let within = run.within in omega (arith, within)

  given_run : given_all + before run.from ≡ before run.to
  given_run =
      let sum = run_sum (λ n. test (get_or order n 0)) (length order) run before (λ n. count_by test
      (hand n)) given given_none (λ n lt. before_more n) (λ n lt. given_more n) (length order)
      (omega arith) in
      let a : before (min (length order) run.from) ≡ before run.from = ap before ended_from in
      let b : before (min (length order) run.to) ≡ before run.to = ap before ended_to in
      omega (arith, sum, a, b)

  -- how many cards lay there
  abbrev pub passed_by : ℕ → ℕ
  passed_by n = sum_by (λ place. get_or left place 0) (take n order)

  abbrev pub had : ℕ → ℕ
  had n = sum_by (λ place. cond (test place) (get_or left place 0) 0) (take n order)

  had_all : had (length order) ≡ left_with test left (length left)
  had_all = ap (sum_by (λ place. cond (test place) (get_or left place 0) 0)) (take-length order)
      ∙ sum_by-IsPermutation (λ place. cond (test place) (get_or left place 0) 0)
      (range_with_len 0 (length left)) order permutes

  had_run : had (length order) + passed_by run.from ≡ passed_by run.to
  had_run =
      let sum = run_sum (λ n. test (get_or order n 0)) (length order) run passed_by had
      (λ n. get_or left (get_or order n 0) 0) refl
      (λ n lt. sum_by_more (λ place. get_or left place 0) order n 0 lt)
      (λ n lt. sum_by_more (λ place. cond (test place) (get_or left place 0) 0) order n 0 lt)
      (length order) (omega arith) in
      let a : passed_by (min (length order) run.from) ≡ passed_by run.from = ap passed_by ended_from in
      let b : passed_by (min (length order) run.to) ≡ passed_by run.to = ap passed_by ended_to in
      omega (arith, sum, a, b)

  given_share : (most : ℕ) → left_with test left (length left) ≤ (later + 1) * (size * most) →
      IsShare later (size * most) (had (length order)) given_all
  given_share most few =
      let from : run.from ≤ length order = (let rises = run.rises in let within = run.within in
      omega (arith, rises, within)) in
      let one = taking run.from from in
      let other = taking run.to run.within in
      let first_sums = one.sums in
      let last_sums = other.sums in
      let parts : before run.to * (later + 1) ≡ given_all * (later + 1) + before run.from * (later + 1) =
      ap (λ k. k * (later + 1)) (sym given_run) ∙ add-mul given_all (before run.from) (later + 1) in
      shared later (size * most) (now run.from).passed (had (length order)) given_all
      (now run.to).passed one.passed (omega (arith, few, had_all))
      (omega (arith, first_sums, last_sums, parts, had_run)) other.passed

  kept_with : left_with test (now (length order)).left (length left) + given_all ≡ left_with test left
      (length left)
  kept_with =
      let all = range_with_len 0 (length left) in
      let t = taking (length order) (omega arith) in
      let gave : ℕ → ℕ = λ place. cond (test place) (cards_in (hand (length order)) place) 0 in
      let keeps : ℕ → ℕ = λ place. cond (test place) (get_or (now (length order)).left place 0) 0 in
      let both = sum_both gave keeps all in
      let kept : sum_by (λ place. gave place + keeps place) all ≡ left_with test left (length left) =
      sum_same (λ place. gave place + keeps place) (λ place. cond (test place) (get_or left place 0) 0)
      (λ place. sym (both_with (test place) (cards_in (hand (length order)) place)
      (get_or (now (length order)).left place 0)) ∙ ap (λ c. cond (test place) c 0) (t.kept place)) all in
      let counted = cards_by_device test (length left) (hand (length order)) t.within in
      omega (arith, both, kept, counted)

  -- a hand takes a share of what these devices have
  pub hand_shares : (most : ℕ) → left_with test left (length left) ≤ (later + 1) * (size * most) →
      IsShared test later size most (length left) (taken_of (later + 1) order left)
  hand_shares most few =
      let share = given_share most few in
      let takes = share.few in
      let rests = share.rest in
      record {
        first = before run.from;
        run = λ k lt is.
            let inside = in_run k lt is in
            let high = inside.1 in
            (inside.0, omega (arith, high, given_run, takes));
        rest = omega (arith, kept_with, rests, had_all);
      }
