-- Lists by the numbers below n.
use Rattle.std.proofs.Common.{◌≡◌, ◌==◌, ℕ, zero, suc, ◌+◌, ◌<◌, ◌≤◌, Bool, true, false, cond, ◌||◌}
use Rattle.std.proofs.Common.{List, [], ◌∷◌, ◌++◌, get_or, map, count_by, sum_by, Option, Some}
use Rattle.std.proofs.Common.{None, refl, sym, ap, ◌∙◌, arith, slice_get}
use Rattle.std.specs.Prelude.{nat_lt}
use Rattle.std.specs.List.{list_any, range_with_len}
use Rattle.std.proofs.lemmas.Bool.Decides.{nat_tests}
use Rattle.std.proofs.lemmas.Bool.{eq-eqb}
use Rattle.std.proofs.lemmas.List.FromFn.{get_or-map-range_with_len, get_or-range_with_len}
use Rattle.std.proofs.lemmas.List.FromFn.{map-range_with_len_more, length-map-range_with_len}
use Rattle.std.proofs.lemmas.List.FromFn.{length-range_with_len}
use Rattle.std.proofs.lemmas.List.Sums.{get_or-le-sum_by, sum_by-cons}
use Rattle.std.proofs.lemmas.Option.{slice_get-get_or, same_Some}
use Rattle.ring_words.specs.declared.device.Device.{Device}
use Rattle.ring_share.specs.Crowd.{is_on, seats_on}
use Rattle.ring_room.specs.Free.{has_free_in}
use Rattle.ring_room.specs.Load.{Load}
use Rattle.ring_place.specs.Inner.Placing.{drawn, drawn_in, draws}

pub range_get : {X : Type 0} (f : ℕ → X) (n k : ℕ) → k < n → slice_get (map f (range_with_len 0 n))
    k ≡ Some (f k)
range_get f n k lt =
    slice_get-get_or (map f (range_with_len 0 n)) k (f k) (omega (
      arith,
      lt,
      length-map-range_with_len f 0 n,
    )) ∙ ap Some (get_or-map-range_with_len f 0 n k k (f k) lt
    (omega arith))

sum_from : (f g : ℕ → ℕ) (a n : ℕ) → ((k : ℕ) → a ≤ k → k < a + n → f k ≡ g k) →
    sum_by f (range_with_len a n) ≡ sum_by g (range_with_len a n)
sum_from f g a zero same = refl
sum_from f g a (suc n) same =
    let one = sum_by-cons f a (range_with_len (a + 1) n) in
    let other = sum_by-cons g a (range_with_len (a + 1) n) in
    let here = same a (omega arith) (omega arith) in
    let rest = sum_from f g (a + 1) n (λ k le lt. same k (omega (arith, le)) (omega (arith, lt))) in
    omega (arith, one, other, here, rest)

-- sums of what is the same at each number
pub sum_same : (f g : ℕ → ℕ) (n : ℕ) → ((k : ℕ) → k < n → f k ≡ g k) →
    sum_by f (range_with_len 0 n) ≡ sum_by g (range_with_len 0 n)
sum_same f g n same = sum_from f g 0 n (λ k le lt. same k (omega (arith, lt)))

pub count_same : (p q : ℕ → Bool) (n : ℕ) → ((k : ℕ) → k < n → p k ≡ q k) →
    count_by p (range_with_len 0 n) ≡ count_by q (range_with_len 0 n)
count_same p q n same = sum_same (λ k. cond (p k) 1 0) (λ k. cond (q k) 1 0) n
    (λ k lt. ap (λ b. cond b 1 0) (same k lt))

pub sum_map : {X Y : Type 0} (f : Y → ℕ) (g : X → Y) (xs : List X) →
    sum_by f (map g xs) ≡ sum_by (λ x. f (g x)) xs
sum_map f g [] = refl
sum_map f g (x ∷ xs) =
    let one = sum_by-cons f (g x) (map g xs) in
    let other = sum_by-cons (λ y. f (g y)) x xs in
    omega (arith, one, other, sum_map f g xs)

-- a term of a sum is no more than the sum
pub term_of_sum : (f : ℕ → ℕ) (n k : ℕ) → k < n → f k ≤ sum_by f (range_with_len 0 n)
term_of_sum f n k lt =
    let le = get_or-le-sum_by f (range_with_len 0 n) k 0 (omega (
      arith,
      lt,
      length-range_with_len 0 n,
    )) in
    let at : f (get_or (range_with_len 0 n) k 0) ≡ f k =
    ap f (get_or-range_with_len 0 n k 0 lt ∙ (let same : 0 + k ≡ k = omega arith in same)) in
    omega (arith, le, at)

-- counts of a row's seats by what is the same at each device on it
pub row_count_same : (p q : ℕ → Bool) (row : List (Option ℕ)) →
    ((k y : ℕ) → slice_get row k ≡ Some (Some y) → p y ≡ q y) → count_by (is_on p) row ≡ count_by
    (is_on q) row
row_count_same p q [] same = refl
row_count_same p q (None ∷ row) same =
    let one = sum_by-cons (λ (s : Option ℕ). cond (is_on p s) 1 0) None row in
    let other = sum_by-cons (λ (s : Option ℕ). cond (is_on q s) 1 0) None row in
    omega (arith, one, other, row_count_same p q row (λ k y at. same (suc k) y at))
row_count_same p q (Some x ∷ row) same =
    let one = sum_by-cons (λ (s : Option ℕ). cond (is_on p s) 1 0) (Some x) row in
    let other = sum_by-cons (λ (s : Option ℕ). cond (is_on q s) 1 0) (Some x) row in
    let here : ◌≡◌ {A = ℕ} (cond (p x) 1 0) (cond (q x) 1 0) =
    ap (λ b. cond b 1 0) (same zero x refl) in
    omega (arith, one, other, here, row_count_same p q row (λ k y at. same (suc k) y at))

-- two seats of a row that are on one device
seat_counts : (id : ℕ) (row : List (Option ℕ)) (k : ℕ) → slice_get row k ≡ Some (Some id) →
    1 ≤ seats_on id row
seat_counts id [] k at = absurd (cc at)
seat_counts id (seat ∷ row) zero at =
    let one = sum_by-cons (λ (s : Option ℕ). cond (is_on (λ o. o == id) s) 1 0) seat row in
    let is : seat ≡ Some id = same_Some seat (Some id) at in
    let here : ◌≡◌ {A = ℕ} (cond (is_on (λ o. o == id) seat) 1 0) 1 =
    ap (λ s. cond (is_on (λ o. o == id) s) 1 0) is ∙ ap (λ b. cond b 1 0) (eq-eqb id id refl) in
    omega (arith, one, here)
seat_counts id (seat ∷ row) (suc k) at = let one =
    sum_by-cons (λ (s : Option ℕ). cond (is_on (λ o. o == id) s) 1 0) seat row in
    omega (arith, one, seat_counts id row k at)

head_counts : (id : ℕ) (seat : Option ℕ) (row : List (Option ℕ)) (k : ℕ) → seat ≡ Some id →
    slice_get row k ≡ Some (Some id) → 2 ≤ seats_on id (seat ∷ row)
head_counts id seat row k is at =
    let one = sum_by-cons (λ (s : Option ℕ). cond (is_on (λ o. o == id) s) 1 0) seat row in
    let here : ◌≡◌ {A = ℕ} (cond (is_on (λ o. o == id) seat) 1 0) 1 =
    ap (λ s. cond (is_on (λ o. o == id) s) 1 0) is ∙ ap (λ b. cond b 1 0) (eq-eqb id id refl) in
    omega (arith, one, here, seat_counts id row k at)

pub one_seat : (id : ℕ) (row : List (Option ℕ)) (i j : ℕ) → seats_on id row ≤ 1 →
    slice_get row i ≡ Some (Some id) → slice_get row j ≡ Some (Some id) → i ≡ j
one_seat id [] i j few at bt = absurd (cc at)
one_seat id (seat ∷ row) zero zero few at bt = refl
one_seat id (seat ∷ row) zero (suc j) few at bt =
    absurd (omega (arith, few, head_counts id seat row j (same_Some seat (Some id) at) bt))
one_seat id (seat ∷ row) (suc i) zero few at bt =
    absurd (omega (arith, few, head_counts id seat row i (same_Some seat (Some id) bt) at))
one_seat id (seat ∷ row) (suc i) (suc j) few at bt =
    let one = sum_by-cons (λ (s : Option ℕ). cond (is_on (λ o. o == id) s) 1 0) seat row in
    ap suc (one_seat id row i j (omega (arith, few, one)) at bt)

-- what is drawn, number by number
drawn_row_from : (devices : List Device) (free : Bool) (id : ℕ) (before up to : ℕ → Option ℕ)
    (a n : ℕ)
    → drawn_in devices free id (map before (range_with_len a n)) (map up (range_with_len a n))
    (map to (range_with_len a n)) ≡ count_by (λ k. draws devices free id (before k) (up k)
    (to k)) (range_with_len a n)
drawn_row_from devices free id before up to a zero = refl
drawn_row_from devices free id before up to a (suc n) =
    let one = sum_by-cons (λ k. cond (draws devices free id (before k) (up k) (to k)) 1 0) a
    (range_with_len (a + 1) n) in
    omega (arith, one, drawn_row_from devices free id before up to (a + 1) n)

pub drawn_row_is : (devices : List Device) (free : Bool) (id : ℕ) (before up to : ℕ → Option ℕ)
    (n : ℕ)
    → drawn_in devices free id (map before (range_with_len 0 n)) (map up (range_with_len 0 n))
    (map to (range_with_len 0 n)) ≡ count_by (λ k. draws devices free id (before k) (up k)
    (to k)) (range_with_len 0 n)
drawn_row_is devices free id before up to n = drawn_row_from devices free id before up to 0 n

drawn_from : (load : Load) (id : ℕ) (before up to : ℕ → List (Option ℕ)) (a n : ℕ)
    → drawn load id (map before (range_with_len a n)) (map up (range_with_len a n))
    (map to (range_with_len a n)) ≡ sum_by (λ k. drawn_in load.devices (has_free_in load (to k))
    id (before k) (up k) (to k)) (range_with_len a n)
drawn_from load id before up to a zero = refl
drawn_from load id before up to a (suc n) =
    let one = sum_by-cons (λ k. drawn_in load.devices (has_free_in load (to k)) id (before k) (up k)
    (to k)) a (range_with_len (a + 1) n) in
    omega (arith, one, drawn_from load id before up to (a + 1) n)

pub drawn_is : (load : Load) (id : ℕ) (before up to : ℕ → List (Option ℕ)) (n : ℕ)
    → drawn load id (map before (range_with_len 0 n)) (map up (range_with_len 0 n))
    (map to (range_with_len 0 n)) ≡ sum_by (λ k. drawn_in load.devices (has_free_in load (to k))
    id (before k) (up k) (to k)) (range_with_len 0 n)
drawn_is load id before up to n = drawn_from load id before up to 0 n

sum_from_more : (f : ℕ → ℕ) (a n : ℕ) → sum_by f (range_with_len a (suc n)) ≡ sum_by f
    (range_with_len a n) + f (a + n)
sum_from_more f a zero =
    let one = sum_by-cons f a [] in
    let same : f (a + 0) ≡ f a = (let e : a + 0 ≡ a = omega arith in ap f e) in
    omega (arith, one, same)
sum_from_more f a (suc n) =
    let one = sum_by-cons f a (range_with_len (a + 1) (suc n)) in
    let other = sum_by-cons f a (range_with_len (a + 1) n) in
    let rest = sum_from_more f (a + 1) n in
    let same : f (a + suc n) ≡ f (a + 1 + n) = (let e : a + suc n ≡ a + 1 + n = omega arith in
    ap f e) in
    omega (arith, one, other, rest, same)

-- one more number
pub sum_more : (f : ℕ → ℕ) (n : ℕ) → sum_by f (range_with_len 0 (n + 1)) ≡ sum_by f
    (range_with_len 0 n) + f n
sum_more f n =
    let up : n + 1 ≡ suc n = omega arith in
    ap (λ (k : ℕ). sum_by f (range_with_len 0 k)) up ∙ sum_from_more f 0 n ∙ (let e : 0 + n ≡ n =
    omega arith in ap (λ (k : ℕ). sum_by f (range_with_len 0 n) + f k) e)

pub count_more : (p : ℕ → Bool) (n : ℕ) → count_by p (range_with_len 0 (n + 1)) ≡ count_by p
    (range_with_len 0 n) + cond (p n) 1 0
count_more p n = sum_more (λ k. cond (p k) 1 0) n

-- some number passes exactly where their count isn't 0
pub any_counted : {X : Type 0} (p : X → Bool) (xs : List X) → nat_lt 0 (count_by p xs) ≡ list_any p
    xs
any_counted p [] = refl
any_counted p (x ∷ xs) = ap (nat_lt 0) (sum_by-cons (λ y. cond (p y) 1 0) x xs) ∙ which (p x)
    (list_any p xs) (count_by p xs) (any_counted p xs)
  where
    which : (b c : Bool) (n : ℕ) → nat_lt 0 n ≡ c → nat_lt 0 (cond b 1 0 + n) ≡ (b || c)
    which true c n is = grind (arith, nat_tests)
    which false c n is = ap (nat_lt 0) (let e : 0 + n ≡ n = omega arith in e) ∙ is

pub map_more : {X : Type 0} (f : ℕ → X) (n : ℕ) (items next : List X) (x : X) →
    items ≡ map f (range_with_len 0 n) → next ≡ items ++ x ∷ [] → x ≡ f n →
    next ≡ map f (range_with_len 0 (n + 1))
map_more f n items next x are more is =
    more ∙ ap (λ xs. xs ++ x ∷ []) are ∙ ap (λ y. map f (range_with_len 0 n) ++ y ∷ []) is ∙ sym
    (map-range_with_len_more f 0 n n (omega arith))
