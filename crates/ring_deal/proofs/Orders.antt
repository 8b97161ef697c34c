-- Numbers in some order, each once.
use Rattle.std.proofs.Common.{◌≡◌, ◌==◌, ℕ, ◌+◌, ◌<◌, All, Bool, true, false, ◌||◌, List, [], ◌∷◌}
use Rattle.std.proofs.Common.{length, get_or, take, refl, sym, ap, ◌∙◌, arith}
use Rattle.std.specs.List.{range_with_len}
use Rattle.std.specs.List.Sorted.{IsPermutation}
use Rattle.std.proofs.Math.Seq.{take-length}
use Rattle.std.proofs.lemmas.Bool.Decides.{nat_tests}
use Rattle.std.proofs.lemmas.Bool.{eqb-true, ne_eqb}
use Rattle.std.proofs.lemmas.Grind.{get_or_default_zero}
use Rattle.std.proofs.lemmas.List.{take_more, length-take, length-take-le, get_or-take}
use Rattle.std.proofs.lemmas.List.{get_or_default}
use Rattle.std.proofs.lemmas.List.Folds.{Any-from_list_any, list_any-append, list_any_none}
use Rattle.std.proofs.lemmas.List.FromFn.{length-range_with_len, get_or-range_with_len}
use Rattle.std.proofs.lemmas.List.Sorted.{All-permutation}
use Rattle.std.proofs.lemmas.List.Sorted.{list_any-IsPermutation}
use Rattle.std.proofs.lemmas.Map.Keys.{IsDistinct-IsPermutation, IsDistinct-from_apart}
use Rattle.std.proofs.lemmas.Map.Keys.{apart_from_distinct}
use Rattle.ring_share.proofs.Rows.{some_below}
use Rattle.ring_deal.specs.Inner.Orders.{is_among}

pub all_below : (count : ℕ) (order : List ℕ) → IsPermutation (range_with_len 0 count) order →
    All (λ q. q < count) order
all_below count order is = All-permutation (λ q. q < count) (range_with_len 0 count) order is
    (λ k d below. let within : k < count = omega (arith, below, length-range_with_len 0 count) in
    let at = get_or-range_with_len 0 count k d within in omega (arith, at, within))

pub order_below : (count : ℕ) (order : List ℕ) → IsPermutation (range_with_len 0 count) order →
    (n : ℕ) → n < length order → get_or order n 0 < count
order_below count order is n lt = all_below count order is n 0 lt

-- each of them comes
pub order_all : (count : ℕ) (order : List ℕ) → IsPermutation (range_with_len 0 count) order →
    (p : ℕ) → p < count → is_among order p ≡ true
order_all count order is p lt =
    sym (list_any-IsPermutation (λ q. q == p) (range_with_len 0 count) order is) ∙ some_below
    (λ q. q == p) count p lt (let same : (p == p) ≡ true = grind arith in same)

-- one more number is done
pub among_more : (order : List ℕ) (n p : ℕ) → n < length order → is_among (take (n + 1) order) p ≡
    (is_among (take n order) p || (get_or order n 0 == p))
among_more order n p lt =
    ap (λ done. is_among done p) (take_more order n 0 lt) ∙ list_any-append (λ q. q == p)
    (take n order) (get_or order n 0 ∷ [])
    ∙ ap (λ b. is_among (take n order) p || b) (or_false (get_or order n 0 == p))
  where
    or_false : (b : Bool) → (b || false) ≡ b
    or_false true = refl
    or_false false = refl

numbers_apart : (count i j d : ℕ) → i < j → j < length (range_with_len 0 count) →
    (get_or (range_with_len 0 count) i d == get_or (range_with_len 0 count) j d) ≡ false
numbers_apart count i j d lt within =
    let long = length-range_with_len 0 count in
    let one = get_or-range_with_len 0 count i d (omega (arith, lt, within, long)) in
    let other = get_or-range_with_len 0 count j d (omega (arith, within, long)) in
    ne_eqb _ _ (λ same. omega (arith, one, other, same, lt))

flips : (x y : ℕ) → (x == y) ≡ (y == x)
flips x y = grind (arith, nat_tests)

-- which wasn't done before
pub order_fresh : (count : ℕ) (order : List ℕ) → IsPermutation (range_with_len 0 count) order →
    (n : ℕ) → n < length order → is_among (take n order) (get_or order n 0) ≡ false
order_fresh count order is n lt =
    let distinct = IsDistinct-IsPermutation (λ x y. x == y) flips (range_with_len 0 count) order is
    (IsDistinct-from_apart (λ x y. x == y) (range_with_len 0 count) (numbers_apart count)) in
    let long : length (take n order) ≡ n = length-take-le n order (omega (arith, lt)) in
    list_any_none (λ q. q == get_or order n 0) (take n order)
    (λ k d below. let before : k < n = omega (arith, below, long) in
    ap (λ q. q == get_or order n 0) (get_or-take n order k d before ∙ get_or_any order k d
    (omega (arith, before, lt)))
    ∙ apart_from_distinct (λ x y. x == y) order k n 0 distinct before lt)
  where
    get_or_any : (xs : List ℕ) (k d : ℕ) → k < length xs → get_or xs k d ≡ get_or xs k 0
    get_or_any xs k d lt = get_or_default_zero xs k d lt

-- what is done are numbers below the count
pub among_below : (count : ℕ) (order : List ℕ) → IsPermutation (range_with_len 0 count) order →
    (n p : ℕ) → is_among (take n order) p ≡ true → p < count
among_below count order is n p among =
    let found = Any-from_list_any (λ (x : ℕ). x == p) (take n order) among in
    let within = found.2 in
    let short = length-take n order in
    let lt : found.0 < length order = omega (arith, within, short) in
    let at : found.0 < n = omega (arith, within, short) in
    let read = get_or-take n order found.0 found.1 at in
    let same = get_or_default order found.0 found.1 0 lt in
    let named = eqb-true found.1 p found.4 in
    let is_found = found.3 in
    let below = order_below count order is found.0 lt in
    omega (arith, read, same, named, is_found, below)

-- so are all of them
pub order_is_below : (count : ℕ) (order : List ℕ) → IsPermutation (range_with_len 0 count) order →
    (p : ℕ) → is_among order p ≡ true → p < count
order_is_below count order is p among = among_below count order is (length order) p
    (ap (λ done. is_among done p) (take-length order) ∙ among)
