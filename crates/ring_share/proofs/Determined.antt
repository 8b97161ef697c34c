-- The wants of a ring are one list.
use Rattle.std.proofs.Common.{◌≡◌, ℕ, zero, suc, ◌+◌, ◌<◌, ◌≤◌, true, true≢false, List, [], ◌∷◌}
use Rattle.std.proofs.Common.{length, get_or, sum, Some, refl, sym, ap, ◌∙◌, inl, inr, ◌⊎◌, arith}
use Rattle.std.specs.Prelude.{slice_get, slice_index, if◌then◌else◌}
use Rattle.std.specs.List.{list_any}
use Rattle.std.proofs.lemmas.Bool.{cases_lt, cases_Bool}
use Rattle.std.proofs.lemmas.List.{get_or_past}
use Rattle.std.proofs.lemmas.List.Folds.{list_any_at}
use Rattle.std.proofs.lemmas.List.Sums.{sum_by-cons}
use Rattle.std.proofs.lemmas.Option.{slice_get_cases}
use Rattle.ring_model.specs.Ring.{RingRecord}
use Rattle.ring_words.specs.declared.device.Device.{Device}
use Rattle.ring_share.specs.Want.{is_open, seat_count, whole_share, IsBefore, AreShares, AreWanted}

sum-cons : (x : ℕ) (xs : List ℕ) → sum (x ∷ xs) ≡ x + sum xs
sum-cons x xs = sum_by-cons (λ (y : ℕ). y) x xs

sum_zero : (xs : List ℕ) → ((k : ℕ) → k < length xs → get_or xs k 0 ≡ 0) → sum xs ≡ 0
sum_zero [] none = refl
sum_zero (x ∷ xs) none =
    let rest = sum_zero xs (λ k lt. none (suc k) (omega arith)) in
    let first : x ≡ 0 = none zero (omega arith) in
    sum-cons x xs ∙ omega (arith, rest, first)

sum-le : (xs ys : List ℕ) → length xs ≡ length ys → ((k : ℕ) → get_or xs k 0 ≤ get_or ys k 0) →
    sum xs ≤ sum ys
sum-le [] ys same le = omega arith
sum-le (x ∷ xs) [] same le = absurd (omega arith)
sum-le (x ∷ xs) (y ∷ ys) same le =
    let rest = sum-le xs ys (omega arith) (λ k. le (suc k)) in
    let first : x ≤ y = le zero in
    omega (arith, rest, first, sum-cons x xs, sum-cons y ys)

-- numbers that are no greater one by one, and not smaller together, are the same
same_from_sums : (xs ys : List ℕ) → length xs ≡ length ys →
    ((k : ℕ) → get_or xs k 0 ≤ get_or ys k 0) → sum ys ≤ sum xs → xs ≡ ys
same_from_sums [] [] same le total = refl
same_from_sums [] (y ∷ ys) same le total = absurd (omega arith)
same_from_sums (x ∷ xs) [] same le total = absurd (omega arith)
same_from_sums (x ∷ xs) (y ∷ ys) same le total =
    let below = sum-le xs ys (omega arith) (λ k. le (suc k)) in
    let first : x ≤ y = le zero in
    let equal : x ≡ y = omega (arith, below, first, total, sum-cons x xs, sum-cons y ys) in
    let rest = same_from_sums xs ys (omega arith) (λ k. le (suc k)) (omega (
      arith,
      equal,
      total,
      sum-cons x xs,
      sum-cons y ys,
    )) in
    rw (equal, rest) refl

-- either the first n are no greater one by one, or one of them is greater
compare_below : (n : ℕ) (xs ys : List ℕ) → ((k : ℕ) → k < n → get_or xs k 0 ≤ get_or ys k 0) ⊎
    ((k : ℕ) × (get_or ys k 0 < get_or xs k 0))
compare_below zero xs ys = inl (λ k lt. absurd (omega arith))
compare_below (suc n) xs ys = elim (cases_lt (get_or ys n 0) (get_or xs n 0)) [
  | inl more ↦ inr (n, more)
  | inr le ↦ elim (compare_below n xs ys) [
    | inr more ↦ inr more
    | inl all ↦ inl (λ k lt. elim (cases_lt k n) [
      | inl below ↦ all k below
      | inr here ↦ let is : k ≡ n = omega arith in rw is le
    ])
  ]
]

compare : (xs ys : List ℕ) → ((k : ℕ) → get_or xs k 0 ≤ get_or ys k 0) ⊎
    ((k : ℕ) × (get_or ys k 0 < get_or xs k 0))
compare xs ys = elim (compare_below (length xs) xs ys) [
  | inr more ↦ inr more
  | inl all ↦ inl (λ k. elim (cases_lt k (length xs)) [
    | inl below ↦ all k below
    | inr past ↦ rw (get_or_past xs k 0 past) (omega arith)
  ])
]

-- a device that has one more seat by one list of wants than by another
record HasMore (ring : RingRecord) (one other : List ℕ) (place : ℕ) : Type 0 where
  device : Device
  at : slice_get ring.devices place ≡ Some device
  opened : is_open device ≡ true
  more : slice_index one place ≡ whole_share ring device + 1
  whole : slice_index other place ≡ whole_share ring device

has_more : (ring : RingRecord) (one other : List ℕ) → AreShares ring one → AreShares ring other →
    (place : ℕ) → get_or other place 0 < get_or one place 0 → HasMore ring one other place
has_more ring one other a b place less = elim (slice_get_cases ring.devices place).1 [
  | inr past ↦ absurd (let count = a.count in let gone = past.0 in let nothing =
      get_or_past one place 0 (omega (arith, gone, count)) in omega (arith, less, nothing))
  | inl found ↦
      let device : Device = found.0 in
      let at : slice_get ring.devices place ≡ Some device = found.2 in
      elim (cases_Bool (is_open device)) [
        | inr shut ↦ absurd (let nothing = a.closed place device at shut in
            omega (arith, less, nothing))
        | inl opened ↦
            let first = a.shares place device at opened in
            let second = b.shares place device at opened in
            record {
              device = device;
              at = at;
              opened = opened;
              more = omega (
                arith,
                first,
                second,
                less,
              );
              whole = omega (arith, first, second, less);
            }
      ]
]

-- no two devices come before one another
clash : (ring : RingRecord) (one other : List ℕ) → AreShares ring one → AreShares ring other →
    (k j : ℕ) → get_or other k 0 < get_or one k 0 → get_or one j 0 < get_or other j 0 → ⊥
clash ring one other a b k j at_k at_j =
    let h = has_more ring one other a b k at_k in
    let i = has_more ring other one b a j at_j in
    let before : IsBefore ring h.device i.device = a.order k j h.device i.device h.at i.at h.opened
    i.opened h.more i.whole in
    let after : IsBefore ring i.device h.device = b.order j k i.device h.device i.at h.at i.opened
    h.opened i.more h.whole in
    both h.device i.device before after
  where
    both : (first second : Device) → IsBefore ring first second → IsBefore ring second first → ⊥
    both first second before after =
        let one = before.tie (omega (arith, before.rest, after.rest)) in
        let other = after.tie (omega (arith, before.rest, after.rest)) in
        omega (arith, one, other)

pub wants_sum : (ring : RingRecord) (wanted : List ℕ) → AreWanted ring wanted →
    sum wanted ≡ (if list_any is_open ring.devices then seat_count ring else 0)
wants_sum ring wanted wants = elim (cases_Bool (list_any is_open ring.devices)) [
  | inl some ↦ wants.total some ∙ (rw some refl)
  | inr none ↦ sum_zero wanted (λ k lt. elim (slice_get_cases ring.devices k).1 [
    | inr past ↦ absurd (let count = wants.shares.count in let gone = past.0 in
        omega (arith, lt, count, gone))
    | inl found ↦ wants.shares.closed k found.0 found.2 (elim (cases_Bool (is_open found.0)) [
      | inr shut ↦ shut
      | inl opened ↦ absurd (true≢false (sym (list_any_at is_open ring.devices k found.0 found.1
          (ap is_open found.3 ∙ opened)) ∙ none))
    ])
  ]) ∙ (rw none refl)
]

pub same_wants : (ring : RingRecord) (one other : List ℕ) → AreWanted ring one →
    AreWanted ring other → one ≡ other
same_wants ring one other a b =
    let same_length : length one ≡ length other = a.shares.count ∙ sym b.shares.count in
    let same_sum : sum one ≡ sum other = wants_sum ring one a ∙ sym (wants_sum ring other b) in
    elim (compare one other) [
      | inl all ↦ same_from_sums one other same_length all (omega (arith, same_sum))
      | inr found ↦ sym (same_from_sums other one (sym same_length)
          (λ j. elim (cases_lt (get_or one j 0) (get_or other j 0)) [
            | inl more ↦ absurd (clash ring one other a.shares b.shares found.0 j found.1 more)
            | inr le ↦ le
          ])
          (omega (arith, same_sum)))
    ]
