-- How often numbers come that are told one after another.
use Rattle.std.proofs.Common.{◌≡◌, ◌==◌, ◌∙◌, ℕ, ◌+◌, ◌<◌, ◌≤◌, All, List, [], ◌∷◌, ◌++◌, ap, arith}
use Rattle.std.proofs.Common.{cond, get_or, length, length-append, map, refl, subst, sum_by, sym, max, take, ◌≢◌, ⊎_elim}
use Rattle.std.specs.Prelude.{slice_index}
use Rattle.std.specs.List.{fold}
use Rattle.std.specs.List.Sorted.{IsNonDecreasing, IsStrictlyIncreasing}
use Rattle.std.proofs.lemmas.Bool.{cases_lt, eq-eqb, ne_eqb}
use Rattle.std.proofs.lemmas.List.{get_or_append_left, get_or_at, map-append, take_more}
use Rattle.std.proofs.lemmas.List.Elements.{All-head, All-map, All-push, All-tail}
use Rattle.std.proofs.lemmas.List.Sums.{fold_push, sum_by-cons, sum_by_push}
use Rattle.ring_metrics.specs.Inner.Ends.{AreEndsOf, times}
use Rattle.ring_metrics.specs.Locks.{longest}
use Rattle.ring_metrics.specs.declared.locks.LockEnd.{LockEnd}

-- how often a number comes in one number more
times_push : (xs : List ℕ) (x v : ℕ) → times (xs ++ x ∷ []) v ≡ times xs v + cond (x == v) 1 0
times_push xs x v = sum_by_push (λ k. cond (k == v) 1 0) xs x

times_same : (xs : List ℕ) (x v : ℕ) → x ≡ v → times (xs ++ x ∷ []) v ≡ times xs v + 1
times_same xs x v same =
    let one : ◌≡◌ {A = ℕ} (cond (x == v) 1 0) 1 = ap (λ b. cond b 1 0) (eq-eqb x v same) in
    omega (arith, one, times_push xs x v)

times_other : (xs : List ℕ) (x v : ℕ) → v < x → times (xs ++ x ∷ []) v ≡ times xs v
times_other xs x v below =
    let none : ◌≡◌ {A = ℕ} (cond (x == v) 1 0) 0 = ap (λ b. cond b 1 0)
    (ne_eqb x v (λ same. omega (arith, same, below))) in
    omega (arith, none, times_push xs x v)

-- a number above all of them doesn't come
times_above : (xs : List ℕ) (most v : ℕ) → All (λ x. x ≤ most) xs → most < v → times xs v ≡ 0
times_above [] most v all above = refl
times_above (x ∷ xs) most v all above =
    let lower : x ≤ most = All-head (λ k. k ≤ most) x xs all in
    let none : ◌≡◌ {A = ℕ} (cond (x == v) 1 0) 0 = ap (λ b. cond b 1 0)
    (ne_eqb x v (λ same. omega (arith, same, lower, above))) in
    let first = sum_by-cons (λ k. cond (k == v) 1 0) x xs in
    let rest = times_above xs most v (All-tail (λ k. k ≤ most) x xs all) above in
    omega (arith, none, first, rest)

rising_push : (xs : List ℕ) (y : ℕ) → IsStrictlyIncreasing xs → All (λ x. x < y) xs →
    IsStrictlyIncreasing (xs ++ y ∷ [])
rising_push xs y rise below k lt =
    let long : k + 1 < length xs + 1 = omega (arith, length-append xs (y ∷ [])) in
    let first : slice_index (xs ++ y ∷ []) k ≡ slice_index xs k = get_or_append_left xs (y ∷ []) 0 k
    (omega arith) in
    ⊎_elim
    (λ inner. rw (first, get_or_append_left xs (y ∷ []) 0 (k + 1) inner) (rise k inner))
    (λ last. rw (first, get_or_at xs y [] 0 (k + 1) (omega arith)) (below k 0 (omega arith)))
    (cases_lt (k + 1) (length xs))

rises : (front : List LockEnd) (last : LockEnd) → IsStrictlyIncreasing (map (λ end. end.hours) front) →
    All (λ end. end.hours < last.hours) front →
    IsStrictlyIncreasing (map (λ end. end.hours) (front ++ last ∷ []))
rises front last rise below = rw (map-append (λ (end : LockEnd). end.hours) front (last ∷ []))
    (rising_push (map (λ (end : LockEnd). end.hours) front) last.hours rise
    (All-map (λ hours. hours < last.hours) (λ (end : LockEnd). end.hours) front below))

-- the longest of them is within what bounds all
pub longest_within : (ends : List LockEnd) (most bound : ℕ) → most ≤ bound →
    All (λ end. end.hours ≤ bound) ends →
    fold (λ (m : ℕ) (end : LockEnd). max m end.hours) most ends ≤ bound
longest_within [] most bound le all = le
longest_within (end ∷ ends) most bound le all =
    let here : end.hours ≤ bound = All-head (λ (e : LockEnd). e.hours ≤ bound) end ends all in
    longest_within ends (max most end.hours) bound (omega (arith, le, here))
    (All-tail (λ (e : LockEnd). e.hours ≤ bound) end ends all)

longest_push : (front : List LockEnd) (last : LockEnd) → All (λ end. end.hours < last.hours) front →
    longest (front ++ last ∷ []) ≡ last.hours
longest_push front last below =
    let pushed : longest (front ++ last ∷ []) ≡ max (longest front) last.hours =
    fold_push (λ (m : ℕ) (end : LockEnd). max m end.hours) 0 front last in
    let within : longest front ≤ last.hours = longest_within front 0 last.hours
    (omega arith) (λ k d lt. omega (arith, below k d lt)) in
    omega (arith, pushed, within)

-- These tell how often each number comes, the last one by itself.
pub record AreTold (numbers : List ℕ) (front : List LockEnd) (last : LockEnd) : Type 0 where
  pub rise : IsStrictlyIncreasing (map (λ end. end.hours) front)
  pub below : All (λ end. end.hours < last.hours) front
  pub counted : All (λ end. end.partitions ≡ times numbers end.hours) front
  pub some : All (λ end. 0 < end.partitions) front
  pub last_counted : last.partitions ≡ times numbers last.hours
  pub last_some : 0 < last.partitions
  pub all : sum_by (λ end. end.partitions) front + last.partitions ≡ length numbers
  pub most : All (λ number. number ≤ last.hours) numbers

-- one number more, which was the last
pub told_same : (xs : List ℕ) (front : List LockEnd) (last : LockEnd) (x : ℕ) →
    AreTold xs front last → x ≡ last.hours →
    AreTold (xs ++ x ∷ []) front (record { hours = last.hours; partitions = last.partitions + 1 })
told_same xs front last x told same = record {
  rise = told.rise;
  below = told.below;
  counted = λ k d lt.
      let below : (get_or front k d).hours < x = omega (arith, told.below k d lt, same) in
      told.counted k d lt ∙ sym (times_other xs x (get_or front k d).hours below);
  some = told.some;
  last_counted = ap (λ n. n + 1) told.last_counted ∙ sym (times_same xs x last.hours same);
  last_some = omega arith;
  all = omega (arith, told.all, length-append xs (x ∷ []));
  most = All-push (λ n. n ≤ last.hours) xs x told.most (omega (arith, same));
}

-- one number more, above those so far
pub told_next : (xs : List ℕ) (front : List LockEnd) (last : LockEnd) (x : ℕ) →
    AreTold xs front last → last.hours < x →
    AreTold (xs ++ x ∷ []) (front ++ last ∷ []) (record { hours = x; partitions = 1 })
told_next xs front last x told next =
    let all_below : All (λ (end : LockEnd). end.hours < x) front =
    λ k d lt. omega (arith, told.below k d lt, next) in
    let none = times_above xs last.hours x told.most next in
    record {
      rise = rises front last told.rise told.below;
      below = All-push (λ (end : LockEnd). end.hours < x) front last all_below next;
      counted = All-push (λ (end : LockEnd). end.partitions ≡ times (xs ++ x ∷ []) end.hours) front last
          (λ k d lt. told.counted k d lt ∙ sym (times_other xs x (get_or front k d).hours (all_below k d lt)))
          (told.last_counted ∙ sym (times_other xs x last.hours next));
      some = All-push (λ (end : LockEnd). 0 < end.partitions) front last told.some told.last_some;
      last_counted = omega (arith, none, times_same xs x x refl);
      last_some = omega arith;
      all = omega (
        arith,
        told.all,
        length-append xs (x ∷ []),
        sum_by_push (λ (end : LockEnd). end.partitions) front last,
      );
      most = All-push (λ n. n ≤ x) xs x (λ k d lt. omega (arith, told.most k d lt, next)) (omega arith);
    }

-- all of them, once no number is left
pub ends_told : (xs : List ℕ) (front : List LockEnd) (last : LockEnd) → AreTold xs front last →
    AreEndsOf xs (front ++ last ∷ [])
ends_told xs front last told =
    let most = longest_push front last told.below in
    record {
      rise = rises front last told.rise told.below;
      counted = All-push (λ (end : LockEnd). end.partitions ≡ times xs end.hours) front last told.counted
          told.last_counted;
      some = All-push (λ (end : LockEnd). 0 < end.partitions) front last told.some told.last_some;
      all = sum_by_push (λ (end : LockEnd). end.partitions) front last ∙ told.all;
      most = λ k d lt. omega (arith, told.most k d lt, most);
    }

-- ---- numbers that rise

-- So many of the numbers are told, and the last one of them is the last that was told.
pub record AreToldUpTo (numbers : List ℕ) (place : ℕ) (front : List LockEnd) (last : LockEnd) : Type 0 where
  pub told : AreTold (take (place + 1) numbers) front last
  pub at : last.hours ≡ slice_index numbers place

one_more : (numbers : List ℕ) (place x : ℕ) → place + 1 < length numbers →
    slice_index numbers (place + 1) ≡ x →
    take (place + 1 + 1) numbers ≡ take (place + 1) numbers ++ x ∷ []
one_more numbers place x lt is = take_more numbers (place + 1) 0 lt
    ∙ ap (λ y. take (place + 1) numbers ++ y ∷ []) is

pub more_same : (numbers : List ℕ) (place : ℕ) (front : List LockEnd) (last : LockEnd) (x : ℕ) →
    place + 1 < length numbers → slice_index numbers (place + 1) ≡ x → x ≡ last.hours →
    AreToldUpTo numbers place front last →
    AreToldUpTo numbers (place + 1) front (record { hours = last.hours; partitions = last.partitions + 1 })
more_same numbers place front last x lt is same so_far = record {
  told = subst (λ all. AreTold all front (record { hours = last.hours; partitions = last.partitions + 1 }))
      (sym (one_more numbers place x lt is))
      (told_same (take (place + 1) numbers) front last x so_far.told same);
  at = sym same ∙ sym is;
}

pub more_next : (numbers : List ℕ) (place : ℕ) (front : List LockEnd) (last : LockEnd) (x : ℕ) →
    place + 1 < length numbers → slice_index numbers (place + 1) ≡ x → x ≢ last.hours →
    IsNonDecreasing numbers → AreToldUpTo numbers place front last →
    AreToldUpTo numbers (place + 1) (front ++ last ∷ []) (record { hours = x; partitions = 1 })
more_next numbers place front last x lt is other rise so_far =
    let over : last.hours < x = omega (
      arith,
      other,
      is,
      so_far.at,
      rise place (place + 1) 0 (omega arith) lt,
    ) in
    record {
      told = subst (λ all. AreTold all (front ++ last ∷ []) (record { hours = x; partitions = 1 }))
          (sym (one_more numbers place x lt is))
          (told_next (take (place + 1) numbers) front last x so_far.told over);
      at = sym is;
    }
