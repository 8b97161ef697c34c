-- What goes round in one hand: how many seats it gives, of which devices, and that no partition has
-- two of one.
use Rattle.std.proofs.Common.{◌≡◌, ◌==◌, ◌∙◌, ℕ, zero, suc, ◌+◌, ◌-◌, ◌*◌, ◌<◌, ◌≤◌, All, true}
use Rattle.std.proofs.Common.{List, [], ◌∷◌, ◌++◌, Some, ap, arith, cond, count_by, get_or, length, map}
use Rattle.std.proofs.Common.{refl, slice_get, subst, sum_by, sym, take, ⊎_elim}
use Rattle.std.specs.List.{flat_map, range_with_len}
use Rattle.std.specs.List.Sorted.{IsStrictlyIncreasing}
use Rattle.std.specs.Prelude.{slice_index}
use Rattle.std.proofs.Math.Nat.{add-mul, suc-mul, mul-le-mul_right}
use Rattle.std.proofs.lemmas.Bool.{cases_eq, cases_lt, cases_order, eq-eqb, ne_eqb, or_left, or_right}
use Rattle.std.proofs.lemmas.List.{get_or-map}
use Rattle.std.proofs.lemmas.List.{length-append, length-map, length-take-le, map-id}
use Rattle.std.proofs.lemmas.List.Concat.{get_or-flat_map}
use Rattle.std.proofs.lemmas.List.Elements.{All-append, All-head, All-map, All-nil, All-tail}
use Rattle.std.proofs.lemmas.List.Folds.{fold-map}
use Rattle.std.proofs.lemmas.List.FromFn.{fill_by_all, get_or-map-range_with_len, get_or-range_with_len}
use Rattle.std.proofs.lemmas.List.FromFn.{length-map-range_with_len, length-range_with_len}
use Rattle.std.proofs.lemmas.List.FromFn.{sum_by-map-range_with_len_more}
use Rattle.std.proofs.lemmas.List.Sums.{sum_by-append, sum_by-cons}
use Rattle.std.proofs.lemmas.Map.Keys.{below_from_sorted, sorted_from_strictly_increasing}
use Rattle.std.proofs.lemmas.Nat.{mul-add-lt}
use Rattle.std.proofs.lemmas.Option.{get_or_from_slice_get, slice_get-get_or}
use Rattle.std.proofs.lemmas.Option.{slice_get_within}
use Rattle.ring_words.specs.declared.device.Device.{Device}
use Rattle.ring_model.specs.Ring.{has_device}
use Rattle.ring_model.specs.Valid.{AreDistinct}
use Rattle.ring_room.specs.Places.{id_at, number_of}
use Rattle.ring_deal.specs.Hand.{cards_of, dealt_round}
use Rattle.ring_deal.specs.Inner.Spread.{AreSpread}

-- ---- lists of as many each, one after another

flat_length : (f : ℕ → List ℕ) (m : ℕ) → ((n : ℕ) → length (f n) ≡ m) → (xs : List ℕ) →
    length (flat_map f xs) ≡ length xs * m
flat_length f m each [] = omega arith
flat_length f m each (x ∷ xs) =
    let long = length-append (f x) (flat_map f xs) in
    omega (arith, long, each x, flat_length f m each xs, suc-mul (length xs) m)

flat_get : (f : ℕ → List ℕ) (m : ℕ) → ((n : ℕ) → length (f n) ≡ m) → (xs : List ℕ) (i j : ℕ) →
    i < length xs → j < m → get_or (flat_map f xs) (i * m + j) 0 ≡ get_or (f (get_or xs i 0)) j 0
flat_get f m each xs i j lt below =
    let long = flat_length f m each (take i xs) in
    let short = length-take-le i xs (omega (arith, lt)) in
    let at : length (flat_map f (take i xs)) + j ≡ i * m + j =
    ap (λ (n : ℕ). n + j) (long ∙ ap (λ (n : ℕ). n * m) short) in
    let within : j < length (f (get_or xs i 0)) = omega (arith, each (get_or xs i 0), below) in
    ap (λ (n : ℕ). get_or (flat_map f xs) n 0) (sym at) ∙ get_or-flat_map f xs i j 0 0 lt within

flat_all : (P : ℕ → Type 0) (f : ℕ → List ℕ) (xs : List ℕ) → All (λ x. All P (f x)) xs →
    All P (flat_map f xs)
flat_all P f [] all = All-nil P
flat_all P f (x ∷ xs) all = All-append P (f x) (flat_map f xs)
    (All-head (λ y. All P (f y)) x xs all)
    (flat_all P f xs (All-tail (λ y. All P (f y)) x xs all))

flat_sum : (g : ℕ → ℕ) (f : ℕ → List ℕ) (xs : List ℕ) → sum_by g (flat_map f xs) ≡ sum_by
    (λ x. sum_by g (f x)) xs
flat_sum g f [] = refl
flat_sum g f (x ∷ xs) =
    let both = sum_by-append g (f x) (flat_map f xs) in
    let one = sum_by-cons (λ y. sum_by g (f y)) x xs in
    omega (arith, both, one, flat_sum g f xs)

-- ---- sums over the numbers below one

pub sum_same : (f g : ℕ → ℕ) → ((k : ℕ) → f k ≡ g k) → (xs : List ℕ) → sum_by f xs ≡ sum_by g xs
sum_same f g same [] = refl
sum_same f g same (x ∷ xs) =
    let one = sum_by-cons f x xs in
    let other = sum_by-cons g x xs in
    omega (arith, one, other, same x, sum_same f g same xs)

pub sum_both : (f g : ℕ → ℕ) (xs : List ℕ) → sum_by (λ k. f k + g k) xs ≡ sum_by f xs + sum_by g xs
sum_both f g [] = omega arith
sum_both f g (x ∷ xs) =
    let all = sum_by-cons (λ k. f k + g k) x xs in
    let one = sum_by-cons f x xs in
    let other = sum_by-cons g x xs in
    omega (arith, all, one, other, sum_both f g xs)

pub sum_none : (xs : List ℕ) → sum_by (λ k. 0) xs ≡ 0
sum_none [] = refl
sum_none (x ∷ xs) = let one = sum_by-cons (λ (k : ℕ). 0) x xs in omega (arith, one, sum_none xs)

exchanged : (f : ℕ → ℕ → ℕ) (xs ys : List ℕ) → sum_by (λ x. sum_by (λ y. f x y) ys) xs ≡ sum_by
    (λ y. sum_by (λ x. f x y) xs) ys
exchanged f [] ys = sym (sum_none ys)
exchanged f (x ∷ xs) ys =
    let one = sum_by-cons (λ a. sum_by (λ y. f a y) ys) x xs in
    let each : sum_by (λ y. sum_by (λ a. f a y) (x ∷ xs)) ys ≡ sum_by (λ y. f x y + sum_by
    (λ a. f a y) xs) ys =
    sum_same (λ y. sum_by (λ a. f a y) (x ∷ xs)) (λ y. f x y + sum_by (λ a. f a y) xs)
    (λ y. sum_by-cons (λ a. f a y) x xs) ys in
    let parts = sum_both (λ y. f x y) (λ y. sum_by (λ a. f a y) xs) ys in
    omega (arith, one, each, parts, exchanged f xs ys)

sum_more : (f : ℕ → ℕ) (n : ℕ) → sum_by f (range_with_len 0 (n + 1)) ≡ sum_by f
    (range_with_len 0 n) + f n
sum_more f n =
    ap (sum_by f) (sym (map-id (range_with_len 0 (n + 1))))
    ∙ sum_by-map-range_with_len_more f (λ k. k) 0 n n (omega arith)
    ∙ ap (λ xs. sum_by f xs + f n) (map-id (range_with_len 0 n))

pub sum_suc : (f : ℕ → ℕ) (n : ℕ) → sum_by f (range_with_len 0 (suc n)) ≡ sum_by f
    (range_with_len 0 n) + f n
sum_suc f n = (let up : suc n ≡ n + 1 = omega arith in
    ap (λ (k : ℕ). sum_by f (range_with_len 0 k)) up) ∙ sum_more f n

-- the numbers below one, and so many from it on
sum_parts : (f : ℕ → ℕ) (a b : ℕ) → sum_by f (range_with_len 0 (a + b)) ≡ sum_by f
    (range_with_len 0 a) + sum_by (λ n. f (a + n)) (range_with_len 0 b)
sum_parts f a zero =
    let same : sum_by f (range_with_len 0 (a + 0)) ≡ sum_by f (range_with_len 0 a) =
    (let e : a + 0 ≡ a = omega arith in ap (λ (k : ℕ). sum_by f (range_with_len 0 k)) e) in
    omega (arith, same)
sum_parts f a (suc b) =
    let same : sum_by f (range_with_len 0 (a + suc b)) ≡ sum_by f (range_with_len 0 (suc (a + b))) =
    (let e : a + suc b ≡ suc (a + b) = omega arith in
    ap (λ (k : ℕ). sum_by f (range_with_len 0 k)) e) in
    omega (arith, same, sum_suc f (a + b), sum_suc (λ n. f (a + n)) b, sum_parts f a b)

-- row by row
sum_rows : (f : ℕ → ℕ) (size rows : ℕ) → sum_by f (range_with_len 0 (rows * size)) ≡ sum_by
    (λ row. sum_by (λ n. f (row * size + n)) (range_with_len 0 size)) (range_with_len 0 rows)
sum_rows f size zero = (let none : 0 * size ≡ 0 = omega arith in
    ap (λ (k : ℕ). sum_by f (range_with_len 0 k)) none)
sum_rows f size (suc rows) =
    let same = ap (λ (k : ℕ). sum_by f (range_with_len 0 k)) (suc-mul rows size) in
    let more = sum_suc (λ row. sum_by (λ n. f (row * size + n)) (range_with_len 0 size)) rows in
    omega (arith, same, more, sum_parts f (rows * size) size, sum_rows f size rows)

sum_map : {X Y : Type 0} (f : Y → ℕ) (g : X → Y) (xs : List X) → sum_by f (map g xs) ≡ sum_by
    (λ x. f (g x)) xs
sum_map f g xs = fold-map (λ a y. a + f y) g 0 xs

-- a list by its places
sum_places : (f : ℕ → ℕ) (xs : List ℕ) (n : ℕ) → length xs ≡ n → sum_by f xs ≡ sum_by
    (λ k. f (slice_index xs k)) (range_with_len 0 n)
sum_places f xs n long = ap (sum_by f) (fill_by_all (λ k. slice_index xs k) xs n 0 long
    (λ k lt. refl)) ∙ sum_map f (λ k. slice_index xs k) (range_with_len 0 n)

-- ---- the cards of a hand, partition by partition

cards_count : (hand : List ℕ) (size replicas n : ℕ) → length (cards_of hand size replicas n) ≡
    replicas
cards_count hand size replicas n =
    length-map-range_with_len (λ round. slice_index hand (round * size + n)) 0 replicas

-- as many seats as there are partitions and replicas
pub round_count : (hand : List ℕ) (size replicas : ℕ) → length (dealt_round hand size replicas) ≡
    size * replicas
round_count hand size replicas = flat_length (cards_of hand size replicas) replicas
    (cards_count hand size replicas) (range_with_len 0 size)
    ∙ ap (λ (n : ℕ). n * replicas) (length-range_with_len 0 size)

-- a device has as many seats as it had cards
pub round_keeps : (x : ℕ) (hand : List ℕ) (size replicas : ℕ) → length hand ≡ replicas * size →
    count_by (λ place. place == x) (dealt_round hand size replicas) ≡ count_by (λ place. place == x)
    hand
round_keeps x hand size replicas long =
    let one : ℕ → ℕ = λ place. cond (place == x) 1 0 in
    let parts = range_with_len 0 size in
    let rounds = range_with_len 0 replicas in
    flat_sum one (cards_of hand size replicas) parts
    ∙ sum_same (λ n. sum_by one (cards_of hand size replicas n)) (λ n. sum_by
    (λ round. one (slice_index hand (round * size + n))) rounds)
    (λ n. sum_map one (λ round. slice_index hand (round * size + n)) rounds) parts
    ∙ exchanged (λ n round. one (slice_index hand (round * size + n))) parts rounds
    ∙ sym (sum_rows (λ k. one (slice_index hand k)) size replicas)
    ∙ sym (sum_places one hand (replicas * size) long)

-- the seats are on the devices whose cards they are
pub round_within : (n : ℕ) (hand : List ℕ) (size replicas : ℕ) → length hand ≡ replicas * size →
    All (λ place. place < n) hand → All (λ place. place < n) (dealt_round hand size replicas)
round_within n hand size replicas long within =
    flat_all (λ place. place < n) (cards_of hand size replicas) (range_with_len 0 size)
    (λ k d lt. let at : get_or (range_with_len 0 size) k d ≡ k = get_or-range_with_len 0 size k d
    (below_length size k lt) ∙ (let e : 0 + k ≡ k = omega arith in e) in
    subst (λ (p : ℕ). All (λ place. place < n) (cards_of hand size replicas p)) (sym at)
    (cards_within k (below_length size k lt)))
  where
    below_length : (count k : ℕ) → k < length (range_with_len 0 count) → k < count
    below_length count k lt = omega (arith, lt, length-range_with_len 0 count)

    card_within : (part round : ℕ) → part < size → round < replicas → slice_index hand
        (round * size + part) < n
    card_within part round lt below = within (round * size + part) 0
        (omega (arith, long, mul-add-lt round size part replicas below lt))

    cards_within : (part : ℕ) → part < size → All (λ place. place < n)
        (cards_of hand size replicas part)
    cards_within part lt = All-map (λ place. place < n) (λ round. slice_index hand
        (round * size + part)) (range_with_len 0 replicas)
        (λ round d below. let small = below_length replicas round below in
        let at : get_or (range_with_len 0 replicas) round d ≡ round = get_or-range_with_len 0
        replicas round d small ∙ (let e : 0 + round ≡ round = omega arith in e) in
        subst (λ (r : ℕ). slice_index hand (r * size + part) < n) (sym at)
        (card_within part round lt small))

-- the seat of a replica of a partition is the card that fell to it in that round
pub round_at : (hand : List ℕ) (size replicas part round : ℕ) → part < size → round < replicas →
    get_or (dealt_round hand size replicas) (part * replicas + round) 0 ≡ slice_index hand
    (round * size + part)
round_at hand size replicas part round lt below =
    let long = length-range_with_len 0 size in
    let at : get_or (range_with_len 0 size) part 0 ≡ part = get_or-range_with_len 0 size part 0 lt
    ∙ (let e : 0 + part ≡ part = omega arith in e) in
    flat_get (cards_of hand size replicas) replicas (cards_count hand size replicas)
    (range_with_len 0 size) part round (omega (arith, lt, long)) below
    ∙ ap (λ (p : ℕ). get_or (cards_of hand size replicas p) round 0) at
    ∙ get_or-map-range_with_len (λ r. slice_index hand (r * size + part)) 0 replicas round round 0
    below (omega arith)

-- the partition of a place
part_below : (part size replicas one : ℕ) → part * replicas + one < size * replicas → part < size
part_below part size replicas one lt = ⊎_elim (λ below. below)
    (λ over. absurd (let least : size * replicas ≤ part * replicas = mul-le-mul_right replicas over in
    omega (arith, lt, least))) (cases_lt part size)

-- where no two cards of a device are as far apart as there are partitions
pub round_distinct : (hand : List ℕ) (size replicas : ℕ) → length hand ≡ replicas * size →
    AreSpread size hand → AreDistinct replicas (dealt_round hand size replicas)
round_distinct hand size replicas long spread part one other id lt below at bt =
    ⊎_elim (λ same. same) (λ apart. ⊎_elim (λ rises. absurd (not_both one other rises below at bt))
    (λ falls. absurd (not_both other one falls lt bt at)) apart) (cases_order one other)
  where
    seats : List ℕ
    seats = dealt_round hand size replicas

    within : part < size
    within = part_below part size replicas one (omega (
      arith,
      slice_get_within seats (part * replicas + one) id at,
      round_count hand size replicas,
    ))

    not_both : (low high : ℕ) → low < high → high < replicas →
        slice_get seats (part * replicas + low) ≡ Some id →
        slice_get seats (part * replicas + high) ≡ Some id → ⊥
    not_both low high rises small at bt =
        let first = sym (round_at hand size replicas part low within (omega (arith, rises, small)))
        ∙ get_or_from_slice_get seats (part * replicas + low) id 0 at in
        let second = sym (round_at hand size replicas part high within small)
        ∙ get_or_from_slice_get seats (part * replicas + high) id 0 bt in
        let steps : suc low * size ≤ high * size = mul-le-mul_right size (omega (arith, rises)) in
        let step = suc-mul low size in
        let inside = mul-add-lt high size part replicas small within in
        let near = spread (low * size + part) (high * size + part) (omega (arith, steps, step, within))
        (omega (arith, inside, long)) (first ∙ sym second) in
        omega (arith, near, steps, step)

-- ---- one hand after another

slice_get_left : (xs ys : List ℕ) (k : ℕ) → k < length xs → slice_get (xs ++ ys) k ≡ slice_get xs k
slice_get_left [] ys k lt = absurd (omega (arith, lt))
slice_get_left (x ∷ xs) ys zero lt = refl
slice_get_left (x ∷ xs) ys (suc k) lt = slice_get_left xs ys k (omega (arith, lt))

slice_get_right : (xs ys : List ℕ) (k at : ℕ) → at ≡ length xs + k → slice_get (xs ++ ys) at ≡
    slice_get ys k
slice_get_right [] ys k at is = (let e : at ≡ k = omega (arith, is) in ap (slice_get ys) e)
slice_get_right (x ∷ xs) ys k zero is = absurd (omega (arith, is))
slice_get_right (x ∷ xs) ys k (suc at) is = slice_get_right xs ys k at (omega (arith, is))

-- seats of whole partitions, and more behind them
pub distinct_append : (replicas m : ℕ) (xs ys : List ℕ) → length xs ≡ m * replicas →
    AreDistinct replicas xs → AreDistinct replicas ys → AreDistinct replicas (xs ++ ys)
distinct_append replicas m xs ys long first second part one other id lt below at bt =
    ⊎_elim (λ within. first part one other id lt below (before one within lt at)
    (before other within below bt))
    (λ over. second (part - m) one other id lt below (behind one over at) (behind other over bt))
    (cases_lt part m)
  where
    before : (replica : ℕ) → part < m → replica < replicas →
        slice_get (xs ++ ys) (part * replicas + replica) ≡ Some id →
        slice_get xs (part * replicas + replica) ≡ Some id
    before replica within small at =
        let inside = mul-add-lt part replicas replica m within small in
        sym (slice_get_left xs ys (part * replicas + replica) (omega (arith, inside, long))) ∙ at

    behind : (replica : ℕ) → m ≤ part →
        slice_get (xs ++ ys) (part * replicas + replica) ≡ Some id →
        slice_get ys ((part - m) * replicas + replica) ≡ Some id
    behind replica over at =
        let parts : part * replicas ≡ m * replicas + (part - m) * replicas =
        (let e : part ≡ m + (part - m) = omega (arith, over) in ap (λ (p : ℕ). p * replicas) e)
        ∙ add-mul m (part - m) replicas in
        sym (slice_get_right xs ys ((part - m) * replicas + replica) (part * replicas + replica)
        (omega (arith, parts, long))) ∙ at

-- ---- the numbers of devices

-- the numbers of devices rise with their places
id_is : (devices : List Device) (place : ℕ) → place < length devices → id_at devices place ≡ get_or
    (map (λ device. device.id) devices) place 0
id_is [] place lt = absurd (omega (arith, lt))
id_is (device ∷ devices) zero lt = refl
id_is (device ∷ devices) (suc place) lt = id_is devices place (omega (arith, lt))

ids_rise : (devices : List Device) → IsStrictlyIncreasing (map (λ device. device.id) devices) →
    (low high : ℕ) → low < high → high < length devices → id_at devices low < id_at devices high
ids_rise devices rise low high lt within =
    let ids = map (λ (device : Device). device.id) devices in
    let long : length ids ≡ length devices = length-map devices (λ device. device.id) in
    let below = below_from_sorted ids low high 0 (sorted_from_strictly_increasing ids rise) lt
    (omega (arith, within, long)) in
    omega (
      arith,
      below,
      id_is devices low (omega (arith, lt, within)),
      id_is devices high within,
    )

-- so no two have the same
ids_apart : (devices : List Device) → IsStrictlyIncreasing (map (λ device. device.id) devices) →
    (one other : ℕ) → one < length devices → other < length devices →
    id_at devices one ≡ id_at devices other → one ≡ other
ids_apart devices rise one other lt below same =
    ⊎_elim (λ is. is) (λ apart. ⊎_elim
    (λ rises. absurd (omega (arith, same, ids_rise devices rise one other rises below)))
    (λ falls. absurd (omega (arith, same, ids_rise devices rise other one falls lt))) apart)
    (cases_order one other)

-- places that are apart are of devices that are
pub ids_distinct : (replicas : ℕ) (devices : List Device) (places : List ℕ) →
    IsStrictlyIncreasing (map (λ device. device.id) devices) → AreDistinct replicas places →
    All (λ place. place < length devices) places → AreDistinct replicas (map (id_at devices) places)
ids_distinct replicas devices places rise distinct within part one other id lt below at bt =
    let here = seat_place (part * replicas + one) at in
    let there = seat_place (part * replicas + other) bt in
    let same : here.0 ≡ there.0 = ids_apart devices rise here.0 there.0 here.2 there.2
    (here.3 ∙ sym there.3) in
    distinct part one other there.0 lt below (here.1 ∙ ap Some same) there.1
  where
    seat_place : (k : ℕ) → slice_get (map (id_at devices) places) k ≡ Some id → (place : ℕ) ×
        (slice_get places k ≡ Some place) × (place < length devices) × (id_at devices place ≡ id)
    seat_place k at =
        let long : length (map (id_at devices) places) ≡ length places =
        length-map places (id_at devices) in
        let lt : k < length places = omega (
          arith,
          long,
          slice_get_within (map (id_at devices) places) k id at,
        ) in (
          get_or places k 0,
          slice_get-get_or places k 0 lt,
          within k 0 lt,
          sym (get_or-map (id_at devices) places k 0 0 lt)
              ∙ get_or_from_slice_get (map (id_at devices) places) k id 0 at,
        )

-- a device has as many seats as its place comes
pub ids_count : (devices : List Device) (places : List ℕ) (place : ℕ) (device : Device) →
    IsStrictlyIncreasing (map (λ device. device.id) devices) →
    slice_get devices place ≡ Some device → All (λ place. place < length devices) places →
    count_by (λ seat. seat == device.id) (map (id_at devices) places) ≡ count_by
    (λ other. other == place) places
ids_count devices [] place device rise at within = refl
ids_count devices (other ∷ places) place device rise at within =
    let one = sum_by-cons (λ seat. cond (seat == device.id) 1 0) (id_at devices other)
    (map (id_at devices) places) in
    let two = sum_by-cons (λ seat. cond (seat == place) 1 0) other places in
    let lt : other < length devices = All-head (λ p. p < length devices) other places within in
    let here : ◌≡◌ {A = ℕ} (cond (id_at devices other == device.id) 1 0)
    (cond (other == place) 1 0) = ap (λ b. cond b 1 0) (same_test lt) in
    omega (
      arith,
      one,
      two,
      here,
      ids_count devices places place device rise at
          (All-tail (λ p. p < length devices) other places within),
    )
  where
    named : id_at devices place ≡ device.id
    named = ap number_of at

    same_test : other < length devices → (id_at devices other == device.id) ≡ (other == place)
    same_test lt = ⊎_elim
        (λ is. eq-eqb (id_at devices other) device.id (ap (id_at devices) is ∙ named)
        ∙ sym (eq-eqb other place is))
        (λ apart. ne_eqb (id_at devices other) device.id (λ same. apart (ids_apart devices rise
        other place lt (slice_get_within devices place device at) (same ∙ sym named)))
        ∙ sym (ne_eqb other place apart)) (cases_eq other place)

-- the devices at places are there
pub ids_known : (devices : List Device) (places : List ℕ) →
    All (λ place. place < length devices) places →
    All (λ id. has_device id devices ≡ true) (map (id_at devices) places)
ids_known devices places within = All-map (λ id. has_device id devices ≡ true) (id_at devices)
    places (λ k d lt. is_there devices (get_or places k d) (within k d lt))
  where
    is_there : (devices : List Device) (place : ℕ) → place < length devices →
        has_device (id_at devices place) devices ≡ true
    is_there [] place lt = absurd (omega (arith, lt))
    is_there (device ∷ devices) zero lt = or_left (device.id == device.id) (has_device device.id
        devices) (eq-eqb device.id device.id refl)
    is_there (device ∷ devices) (suc place) lt = or_right
        (device.id == id_at devices place) (has_device (id_at devices place) devices)
        (is_there devices place (omega (arith, lt)))
