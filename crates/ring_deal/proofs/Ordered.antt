-- Numbers in ascending order, and the order of devices that such numbers give.
use Rattle.std.proofs.Common.{◌≡◌, ◌==◌, ◌∙◌, ℕ, zero, suc, ◌+◌, ◌%◌, ◌<◌, ◌≤◌, All, true, false}
use Rattle.std.proofs.Common.{List, [], ◌∷◌, ◌++◌, Some, ap, arith, cond, count_by, get_or, length, map}
use Rattle.std.proofs.Common.{leb, refl, slice_get, subst, sym, ⊎_elim}
use Rattle.std.specs.List.{range_with_len}
use Rattle.std.specs.List.Sorted.{IsNonDecreasing, IsPermutation}
use Rattle.std.specs.Prelude.{slice_index}
use Rattle.std.proofs.lemmas.Bool.{cases_Bool, cases_order, eq-eqb, leb-true, leb-false, ne_eqb}
use Rattle.std.proofs.lemmas.List.Elements.{All-cons, All-head, All-tail, All-weaker}
use Rattle.std.proofs.lemmas.List.Folds.{map_fixed}
use Rattle.std.proofs.lemmas.List.FromFn.{get_or-range_with_len, length-range_with_len, map-range_with_len_more}
use Rattle.std.proofs.lemmas.List.Sorted.{IsPermutation-cons, IsPermutation-map, IsPermutation-middle}
use Rattle.std.proofs.lemmas.List.Sorted.{IsPermutation-refl, IsPermutation-trans, All-permutation}
use Rattle.std.proofs.lemmas.List.Sorted.{sum_by-IsPermutation}
use Rattle.std.proofs.lemmas.List.Sums.{sum_by-cons}
use Rattle.std.proofs.lemmas.Nat.{mod-mul-add}
use Rattle.ring_words.specs.Limits.{most_devices}
use Rattle.ring_words.specs.declared.device.Device.{Device}
use Rattle.ring_share.specs.Codes.{AreCodes}
use Rattle.ring_share.specs.Crowd.{pass_both}
use Rattle.ring_share.specs.Tiers.{shares}
use Rattle.ring_share.specs.declared.tiers.Tier.{Tier}
use Rattle.ring_share.specs.declared.tiers.Tier.TheVariants.{Region, Zone, Server}
use Rattle.ring_room.specs.Steps.{or_zero}
use Rattle.ring_room.proofs.Steps.{first_is}
use Rattle.ring_deal.specs.Order.{ascending, behind, first_in_tier, order_key, put_among, share_tier}
use Rattle.ring_deal.specs.Order.{tier_order, tier_rank}

-- ---- numbers that ascend

-- the first is the least
first_least : (x : ℕ) (xs : List ℕ) → IsNonDecreasing (x ∷ xs) → All (λ k. x ≤ k) xs
first_least x xs rise k d lt = rise zero (suc k) d (omega arith) (omega (arith, lt))

rest_rise : (x : ℕ) (xs : List ℕ) → IsNonDecreasing (x ∷ xs) → IsNonDecreasing xs
rest_rise x xs rise i j d le lt = rise (suc i) (suc j) d (omega (arith, le)) (omega (arith, lt))

rise_from : (x : ℕ) (xs : List ℕ) → All (λ k. x ≤ k) xs → IsNonDecreasing xs →
    IsNonDecreasing (x ∷ xs)
rise_from x xs least rise zero zero d le lt = omega arith
rise_from x xs least rise zero (suc j) d le lt = least j d (omega (arith, lt))
rise_from x xs least rise (suc i) zero d le lt = absurd (omega (arith, le))
rise_from x xs least rise (suc i) (suc j) d le lt = rise i j d (omega (arith, le)) (omega (arith, lt))

none_rise : IsNonDecreasing []
none_rise i j d le lt = absurd (omega (arith, lt))

-- how often a number comes
times : ℕ → List ℕ → ℕ
times v xs = count_by (λ k. k == v) xs

times_more : (v x : ℕ) (xs : List ℕ) → times v (x ∷ xs) ≡ cond (x == v) 1 0 + times v xs
unfolding times
times_more v x xs = sum_by-cons (λ k. cond (k == v) 1 0) x xs

times_none : (v : ℕ) → times v [] ≡ 0
unfolding times
times_none v = refl

times_once : (x : ℕ) (xs : List ℕ) → 1 ≤ times x (x ∷ xs)
times_once x xs =
    let here : ◌≡◌ {A = ℕ} (cond (x == x) 1 0) 1 = ap (λ b. cond b 1 0) (eq-eqb x x refl) in
    omega (arith, here, times_more x x xs)

-- a number below all of them doesn't come
times_below : (v : ℕ) (xs : List ℕ) → All (λ k. v < k) xs → times v xs ≡ 0
times_below v [] over = times_none v
times_below v (x ∷ xs) over =
    let above : v < x = All-head (λ k. v < k) x xs over in
    let here : ◌≡◌ {A = ℕ} (cond (x == v) 1 0) 0 = ap (λ b. cond b 1 0)
    (ne_eqb x v (λ same. omega (arith, same, above))) in
    omega (arith, here, times_more v x xs, times_below v xs (All-tail (λ k. v < k) x xs over))

times_permuted : (xs ys : List ℕ) → IsPermutation xs ys → (v : ℕ) → times v xs ≡ times v ys
unfolding times
times_permuted xs ys is v = sym (sum_by-IsPermutation (λ k. cond (k == v) 1 0) xs ys is)

-- the first of the one isn't below the first of the other
not_below : (x y : ℕ) (xs ys : List ℕ) → IsNonDecreasing (y ∷ ys) →
    times x (x ∷ xs) ≡ times x (y ∷ ys) → x < y → ⊥
not_below x y xs ys rise same lt =
    let all : All (λ k. x < k) (y ∷ ys) = All-cons (λ k. x < k) y ys lt
    (All-weaker (λ k. y ≤ k) (λ k. x < k) (λ k le. omega (arith, le, lt)) ys (first_least y ys rise))
    in omega (arith, same, times_once x xs, times_below x (y ∷ ys) all)

-- numbers that ascend are told by how often each comes
same_ascending : (xs ys : List ℕ) → IsNonDecreasing xs → IsNonDecreasing ys →
    ((v : ℕ) → times v xs ≡ times v ys) → xs ≡ ys
same_ascending [] [] one other same = refl
same_ascending [] (y ∷ ys) one other same = absurd (omega (arith, times_once y ys, same y, times_none y))
same_ascending (x ∷ xs) [] one other same = absurd (omega (arith, times_once x xs, same x, times_none x))
same_ascending (x ∷ xs) (y ∷ ys) one other same =
    let first : x ≡ y = ⊎_elim (λ is. is) (λ apart. ⊎_elim
    (λ lt. absurd (not_below x y xs ys other (same x) lt))
    (λ gt. absurd (not_below y x ys xs one (sym (same y)) gt)) apart) (cases_order x y) in
    let rest : xs ≡ ys = same_ascending xs ys (rest_rise x xs one) (rest_rise y ys other)
    (λ v. let here : ◌≡◌ {A = ℕ} (cond (x == v) 1 0) (cond (y == v) 1 0) =
    ap (λ k. cond (k == v) 1 0) first in
    omega (arith, same v, times_more v x xs, times_more v y ys, here)) in
    ap (λ k. k ∷ xs) first ∙ ap (λ ks. y ∷ ks) rest

-- ---- numbers put in order

put_none : (n : ℕ) → put_among n [] ≡ n ∷ []
unfolding put_among
put_none n = refl

put_more : (n m : ℕ) (rest : List ℕ) → put_among n (m ∷ rest) ≡ cond (leb n m) (n ∷ m ∷ rest)
    (m ∷ put_among n rest)
unfolding put_among
put_more n m rest = refl

put_front : (n m : ℕ) (rest : List ℕ) → leb n m ≡ true → put_among n (m ∷ rest) ≡ n ∷ m ∷ rest
put_front n m rest le = put_more n m rest ∙ ap (λ b. cond b (n ∷ m ∷ rest) (m ∷ put_among n rest)) le

put_behind : (n m : ℕ) (rest : List ℕ) → leb n m ≡ false → put_among n (m ∷ rest) ≡ m ∷ put_among n
    rest
put_behind n m rest gt = put_more n m rest ∙ ap (λ b. cond b (n ∷ m ∷ rest) (m ∷ put_among n rest)) gt

put_permutes : (n : ℕ) (ms : List ℕ) → IsPermutation (n ∷ ms) (put_among n ms)
put_permutes n [] = subst (IsPermutation (n ∷ [])) (sym (put_none n)) (IsPermutation-refl (n ∷ []))
put_permutes n (m ∷ rest) = ⊎_elim
    (λ le. subst (IsPermutation (n ∷ m ∷ rest)) (sym (put_front n m rest le))
    (IsPermutation-refl (n ∷ m ∷ rest)))
    (λ gt. subst (IsPermutation (n ∷ m ∷ rest)) (sym (put_behind n m rest gt))
    (IsPermutation-trans (n ∷ m ∷ rest) (m ∷ n ∷ rest) (m ∷ put_among n rest)
    (IsPermutation-middle (n ∷ []) m rest)
    (IsPermutation-cons m (n ∷ rest) (put_among n rest) (put_permutes n rest))))
    (cases_Bool (leb n m))

put_rises : (n : ℕ) (ms : List ℕ) → IsNonDecreasing ms → IsNonDecreasing (put_among n ms)
put_rises n [] rise = subst IsNonDecreasing (sym (put_none n))
    (rise_from n [] (λ k d lt. absurd (omega (arith, lt))) none_rise)
put_rises n (m ∷ rest) rise = ⊎_elim
    (λ le. subst IsNonDecreasing (sym (put_front n m rest le))
    (rise_from n (m ∷ rest) (All-cons (λ k. n ≤ k) m rest (leb-true n m le)
    (All-weaker (λ k. m ≤ k) (λ k. n ≤ k)
    (λ k more. omega (arith, more, leb-true n m le)) rest (first_least m rest rise))) rise))
    (λ gt. subst IsNonDecreasing (sym (put_behind n m rest gt))
    (rise_from m (put_among n rest) (All-permutation (λ k. m ≤ k) (n ∷ rest) (put_among n rest)
    (put_permutes n rest) (All-cons (λ k. m ≤ k) n rest (omega (arith, leb-false n m gt))
    (first_least m rest rise))) (put_rises n rest (rest_rise m rest rise))))
    (cases_Bool (leb n m))

ascending_none : ascending [] ≡ []
unfolding ascending
ascending_none = refl

ascending_more : (n : ℕ) (rest : List ℕ) → ascending (n ∷ rest) ≡ put_among n (ascending rest)
unfolding ascending
ascending_more n rest = refl

-- the same numbers in another order
pub ascending_permutes : (keys : List ℕ) → IsPermutation keys (ascending keys)
ascending_permutes [] = subst (IsPermutation []) (sym ascending_none) (IsPermutation-refl [])
ascending_permutes (n ∷ rest) = subst (IsPermutation (n ∷ rest)) (sym (ascending_more n rest))
    (IsPermutation-trans (n ∷ rest) (n ∷ ascending rest) (put_among n (ascending rest))
    (IsPermutation-cons n rest (ascending rest) (ascending_permutes rest))
    (put_permutes n (ascending rest)))

-- which ascend
pub ascending_rises : (keys : List ℕ) → IsNonDecreasing (ascending keys)
ascending_rises [] = subst IsNonDecreasing (sym ascending_none) none_rise
ascending_rises (n ∷ rest) = subst IsNonDecreasing (sym (ascending_more n rest))
    (put_rises n (ascending rest) (ascending_rises rest))

-- there is one such order
pub ascending_is : (keys sorted : List ℕ) → IsPermutation keys sorted → IsNonDecreasing sorted →
    sorted ≡ ascending keys
ascending_is keys sorted is rise = same_ascending sorted (ascending keys) rise (ascending_rises keys)
    (λ v. sym (times_permuted keys sorted is v)
    ∙ times_permuted keys (ascending keys) (ascending_permutes keys) v)

-- ---- the places of devices

-- the place comes last in a key
pub key_place : (devices : List Device) (ranks : List ℕ) (place : ℕ) → place < most_devices →
    order_key devices ranks place % most_devices ≡ place
key_place devices ranks place lt = mod-mul-add (behind (behind (behind
    (tier_rank Region devices ranks place) (tier_rank Zone devices ranks place))
    (tier_rank Server devices ranks place)) (slice_index ranks place)) most_devices place lt

map_map : (f g : ℕ → ℕ) (xs : List ℕ) → map f (map g xs) ≡ map (λ x. f (g x)) xs
map_map f g [] = refl
map_map f g (x ∷ xs) = ap (λ ys. f (g x) ∷ ys) (map_map f g xs)

keys_places : (devices : List Device) (ranks : List ℕ) → length devices ≤ most_devices →
    map (λ key. key % most_devices) (map (order_key devices ranks)
    (range_with_len 0 (length devices))) ≡ range_with_len 0 (length devices)
keys_places devices ranks few =
    let all = range_with_len 0 (length devices) in
    map_map (λ key. key % most_devices) (order_key devices ranks) all
    ∙ map_fixed (λ place. order_key devices ranks place % most_devices) all
    (λ k d lt. let within : k < length devices =
    omega (arith, lt, length-range_with_len 0 (length devices)) in
    let at = get_or-range_with_len 0 (length devices) k d within in
    key_place devices ranks (get_or all k d) (omega (arith, at, within, few)))

-- each place comes once
pub order_permutes : (devices : List Device) (ranks : List ℕ) → length devices ≤ most_devices →
    IsPermutation (range_with_len 0 (length devices)) (tier_order devices ranks)
order_permutes devices ranks few =
    let keys = map (order_key devices ranks) (range_with_len 0 (length devices)) in
    subst (λ places. IsPermutation places (tier_order devices ranks)) (keys_places devices ranks few)
    (IsPermutation-map (λ key. key % most_devices) keys (ascending keys) (ascending_permutes keys))

pub device_there : (devices : List Device) (k : ℕ) → k < length devices → (device : Device) ×
    (slice_get devices k ≡ Some device)
device_there [] k below = absurd (omega (arith, below))
device_there (device ∷ devices) zero below = (device, refl)
device_there (device ∷ devices) (suc k) below = device_there devices k (omega (arith, below))

-- a code is the place of the first device of the tier
pub code_is : (tier : Tier) (devices : List Device) (codes : List ℕ) (place : ℕ) →
    AreCodes tier devices codes → place < length devices → slice_index codes place ≡ first_in_tier
    tier devices place
code_is tier devices codes place are lt = ap or_zero (first_is (share_tier tier devices place)
    (place + 1) code (omega (arith, within)) none_before is_shared)
  where
    code : ℕ
    code = slice_index codes place

    within : code ≤ place
    within = (are place lt).within

    none_before : (k : ℕ) → k < code → share_tier tier devices place k ≡ false
    none_before k before =
        let other = device_there devices k (omega (arith, before, within, lt)) in
        let own = device_there devices place lt in
        ap (λ o. pass_both (shares tier) o (slice_get devices place)) other.1
        ∙ ap (λ o. pass_both (shares tier) (Some other.0) o) own.1
        ∙ (are place lt).none_before k other.0 own.0 before other.1 own.1

    is_shared : share_tier tier devices place code ≡ true
    is_shared =
        let first = device_there devices code (omega (arith, within, lt)) in
        let own = device_there devices place lt in
        ap (λ o. pass_both (shares tier) o (slice_get devices place)) first.1
        ∙ ap (λ o. pass_both (shares tier) (Some first.0) o) own.1
        ∙ (are place lt).shared first.0 own.0 first.1 own.1

-- one more key
pub keys_more : (devices : List Device) (ranks regions zones servers : List ℕ) (place : ℕ)
    (keys next : List ℕ) (key : ℕ) → AreCodes Region devices regions →
    AreCodes Zone devices zones → AreCodes Server devices servers → place < length devices →
    keys ≡ map (order_key devices ranks) (range_with_len 0 place) → key ≡ behind (behind
    (behind (behind (slice_index ranks (slice_index regions place))
    (slice_index ranks (slice_index zones place))) (slice_index ranks (slice_index servers place)))
    (slice_index ranks place)) place → next ≡ keys ++ key ∷ [] →
    next ≡ map (order_key devices ranks) (range_with_len 0 (place + 1))
keys_more devices ranks regions zones servers place keys next key region zone server lt before is more =
    let coded : ℕ → ℕ → ℕ → ℕ = λ a b c. behind (behind (behind (behind (slice_index ranks a)
    (slice_index ranks b)) (slice_index ranks c)) (slice_index ranks place)) place in
    more ∙ ap (λ ks. ks ++ key ∷ []) before
    ∙ ap (λ k. map (order_key devices ranks) (range_with_len 0 place) ++ k ∷ [])
    (is ∙ ap (λ a. coded a (slice_index zones place) (slice_index servers place))
    (code_is Region devices regions place region lt)
    ∙ ap (λ b. coded (first_in_tier Region devices place) b (slice_index servers place))
    (code_is Zone devices zones place zone lt)
    ∙ ap (λ c. coded (first_in_tier Region devices place) (first_in_tier Zone devices place) c)
    (code_is Server devices servers place server lt))
    ∙ sym (map-range_with_len_more (order_key devices ranks) 0 place place (omega arith))
