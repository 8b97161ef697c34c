-- The ranks that are drawn: each number below a count, once.
use Rattle.std.specs.Prelude.{bit_xor}
use Rattle.std.proofs.Common.{◌≡◌, ◌==◌, ◌∙◌, ℕ, zero, suc, ◌+◌, ◌-◌, ◌*◌, ◌/◌, ◌%◌, ◌^◌, ◌<◌, ◌≤◌}
use Rattle.std.proofs.Common.{List, arith, get_or, length, refl, subst, sym, take, ⊎_elim}
use Rattle.std.specs.Int.{rotate_right, w32}
use Rattle.std.specs.List.{range_with_len}
use Rattle.std.specs.List.Sorted.{IsPermutation}
use Rattle.std.proofs.Math.Nat.{div-le_self, div-lt_iff_lt-mul, mul-lt-mul_of_pos_right}
use Rattle.std.proofs.lemmas.Bool.{cases_order, eq-eqb}
use Rattle.std.proofs.lemmas.List.{get_or-take, length-take-le}
use Rattle.std.proofs.lemmas.List.Folds.{list_any_at}
use Rattle.std.proofs.lemmas.List.FromFn.{length-range_with_len}
use Rattle.std.proofs.lemmas.List.Sorted.{IsPermutation-refl, IsPermutation-swap, IsPermutation-trans}
use Rattle.std.proofs.lemmas.List.Sorted.{length_permutation}
use Rattle.std.proofs.lemmas.Nat.{or_of_32}
use Rattle.rand_pcg.specs.Lcg.{Lcg}
use Rattle.rand_pcg.specs.Pcg.{pcg32}
use Rattle.ring_words.specs.Limits.{long_count, most_devices}
use Rattle.ring_room.specs.Steps.{after_steps}
use Rattle.ring_room.proofs.Steps.{steps_more, steps_none}
use Rattle.ring_deal.specs.Draws.{draw_below, shuffled, swap_at}
use Rattle.ring_deal.proofs.Orders.{all_below, order_fresh}

rotated_below : (n by : ℕ) → n < 2 ^ 32 → rotate_right w32 n by < 2 ^ 32
rotated_below n by lt =
    let less = div-le_self n (2 ^ (by % 32)) in
    or_of_32 (n / 2 ^ (by % 32)) (n * 2 ^ ((32 - by % 32) % 32) % 2 ^ 32) (omega (arith, lt, less))
    (omega arith)

word_below : (draws : Lcg) → (pcg32 draws).0 < 2 ^ 32
word_below draws = rotated_below (bit_xor (draws.state / 2 ^ 18) draws.state / 2 ^ 27 % 2 ^ 32)
    (draws.state / 2 ^ 59) (omega arith)

drawn_below : (bound : ℕ) (draws : Lcg) → 0 < bound → (draw_below bound draws).0 < bound
drawn_below bound draws some =
    let word = word_below draws in
    let less : (pcg32 draws).0 * bound < 2 ^ 32 * bound = mul-lt-mul_of_pos_right word some in
    (div-lt_iff_lt-mul {k = long_count} {x = (pcg32 draws).0 * bound} {y = bound} (omega arith)).1
    (omega (arith, less))

steps_permute : (items : List ℕ) (draws : Lcg) (n : ℕ) → n ≤ length items → IsPermutation items
    (after_steps swap_at n (items, draws)).0
steps_permute items draws zero le = subst (λ (now : List ℕ × Lcg). IsPermutation items now.0)
    (steps_none swap_at (items, draws)) (IsPermutation-refl items)
steps_permute items draws (suc n) le =
    let now : List ℕ × Lcg = after_steps swap_at n (items, draws) in
    let old = steps_permute items draws n (omega (arith, le)) in
    let long = length_permutation items now.0 old in
    let other = (draw_below (n + 1) now.1).0 in
    let below = drawn_below (n + 1) now.1 (omega arith) in
    let moved = IsPermutation-swap now.0 (swap_at n now).0 n other (omega (arith, le, long))
    (omega (arith, below, le, long)) refl in
    let next = steps_more swap_at n (items, draws) now (swap_at n now) refl refl in
    subst (λ k. IsPermutation items (after_steps swap_at k (items, draws)).0) (omega arith)
    (subst (λ (now : List ℕ × Lcg). IsPermutation items now.0) next
    (IsPermutation-trans items now.0 (swap_at n now).0 old moved))

-- what is put in an order that is drawn stays the same
pub shuffled_permutes : (items : List ℕ) (draws : Lcg) → IsPermutation items (shuffled items draws).0
shuffled_permutes items draws = steps_permute items draws (length items) (omega arith)

-- ---- ranks

-- Numbers by place: so many, each below the count of devices that there may be, and no two the same.
pub record AreRanks (count : ℕ) (ranks : List ℕ) : Type 0 where
  pub small : (place : ℕ) → place < count → get_or ranks place 0 < most_devices
  pub once : (one other : ℕ) → one < count → other < count → get_or ranks one 0 ≡ get_or ranks other
      0 → one ≡ other

earlier_differs : (count : ℕ) (ranks : List ℕ) → IsPermutation (range_with_len 0 count) ranks →
    (one other : ℕ) → one < other → other < length ranks → get_or ranks one 0 ≡ get_or ranks other 0
    → ⊥
earlier_differs count ranks is one other lt within same =
    let long = length-take-le other ranks (omega (arith, within)) in
    let found = list_any_at (λ q. q == get_or ranks other 0) (take other ranks) one 0
    (omega (arith, long, lt)) (eq-eqb _ _ (get_or-take other ranks one 0 lt ∙ same)) in
    let fresh = order_fresh count ranks is other within in
    cc (found, fresh)

pub ranks_are : (count : ℕ) (ranks : List ℕ) → count ≤ most_devices → IsPermutation
    (range_with_len 0 count) ranks → AreRanks count ranks
ranks_are count ranks few is =
    let long : length ranks ≡ count = length_permutation (range_with_len 0 count) ranks is
    ∙ length-range_with_len 0 count in
    record {
      small = λ place lt. let below = all_below count ranks is place 0 (omega (arith, lt, long)) in
          omega (arith, below, few);
      once = λ one other lt below same. ⊎_elim (λ equal. equal) (λ apart. ⊎_elim
          (λ rises. absurd (earlier_differs count ranks is one other rises (omega (arith, below, long))
          same))
          (λ falls. absurd (earlier_differs count ranks is other one falls (omega (arith, lt, long))
          (sym same))) apart) (cases_order one other);
    }

pub drawn_ranks : (count : ℕ) (draws : Lcg) → count ≤ most_devices → AreRanks count
    (shuffled (range_with_len 0 count) draws).0
drawn_ranks count draws few = ranks_are count (shuffled (range_with_len 0 count) draws).0 few
    (shuffled_permutes (range_with_len 0 count) draws)
