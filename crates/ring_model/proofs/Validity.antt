-- What the tests of a ring's parts find.
use Rattle.std.proofs.Common.{◌≡◌, ℕ, ◌+◌, ◌*◌, ◌/◌, ◌%◌, ◌-◌, ◌<◌, ◌≤◌, Bool, true, false}
use Rattle.std.proofs.Common.{true≢false, List, length, get_or, take, drop, Some, sym, ap, subst}
use Rattle.std.proofs.Common.{◌∙◌, ⊎_elim, arith}
use Rattle.std.specs.Prelude.{slice_get, slice_range, ◌==◌}
use Rattle.std.specs.List.{list_any}
use Rattle.std.proofs.lemmas.Bool.{cases_eq, cases_lt, eqb-true, eqb-false, cases_Bool}
use Rattle.std.proofs.lemmas.List.{take_more, length-take, length-take-le, length-drop, get_or-take}
use Rattle.std.proofs.lemmas.List.{get_or-drop, get_or_default}
use Rattle.std.proofs.lemmas.List.Folds.{list_any_at, Any-from_list_any}
use Rattle.std.proofs.lemmas.List.Quantifiers.{all_pairs_push}
use Rattle.std.proofs.Math.Nat.{div-add-mod, mul_comm, mod-lt}
use Rattle.std.proofs.lemmas.Nat.{div-mul-add}
use Rattle.std.proofs.lemmas.Option.{slice_get_within, get_or_from_slice_get, slice_get-get_or}
use Rattle.ring_words.specs.Rows.{has_place, same_place}
use Rattle.ring_model.specs.Valid.{AreApart, AreDistinct}
use Rattle.ring_words.specs.declared.device.Device.{Device}

-- an element of a list that no element of passes doesn't pass
pub any_fails_at : {X : Type 0} (p : X → Bool) (xs : List X) (i : ℕ) (d : X) →
    list_any p xs ≡ false → i < length xs → p (get_or xs i d) ≡ false
any_fails_at p xs i d none lt =
    ⊎_elim (λ yes. absurd (true≢false (sym (list_any_at p xs i d lt yes) ∙ none))) (λ no. no)
    (cases_Bool (p (get_or xs i d)))

pub apart_more : (xs : List Device) (i : ℕ) (x : Device) → i < length xs → x ≡ get_or xs i x →
    AreApart (take i xs) → has_place x.row (take i xs) ≡ false → AreApart (take (i + 1) xs)
apart_more xs i x lt is apart none =
    rw (take_more xs i x lt, ← is)
    (all_pairs_push (λ a b. same_place a.row b.row ≡ false) (take i xs) x apart
    (λ k d below. any_fails_at (λ device. same_place device.row x.row) (take i xs) k d none below))

pub apart_fails : (xs : List Device) (i : ℕ) (x : Device) → i < length xs → x ≡ get_or xs i x →
    has_place x.row (take i xs) ≡ true → AreApart xs → ⊥
apart_fails xs i x lt is found apart =
    let a = Any-from_list_any (λ (device : Device). same_place device.row x.row) (take i xs) found
    in
    let y : Device = a.1 in
    let below : a.0 < i = omega (arith, a.2, length-take-le i xs (omega arith)) in
    let first : get_or xs a.0 y ≡ y = sym (get_or-take i xs a.0 y below) ∙ a.3 in
    let second : get_or xs i y ≡ x = get_or_default xs i y x lt ∙ sym is in
    let other : same_place y.row x.row ≡ false = rw (first, second) at (apart a.0 i y below lt) in
    true≢false (sym a.4 ∙ other)

-- ---- seats of one partition

row_start : (place replicas : ℕ) → place - place % replicas ≡ replicas * (place / replicas)
row_start place replicas = let whole = div-add-mod place replicas in omega arith

same_row : (j k replicas : ℕ) → j / replicas ≡ k / replicas → k - k % replicas ≤ j
same_row j k replicas e = let whole = div-add-mod j replicas in rw (
  row_start k replicas,
  ← e,
) (omega arith)

-- what stands in a range of a list
in_range : (xs : List ℕ) (first last k : ℕ) → k < last - first → get_or (slice_range xs first last)
    k 0 ≡ get_or xs (first + k) 0
in_range xs first last k lt = get_or-take (last - first) (drop first xs) k 0 lt ∙ get_or-drop first
    xs k 0

-- `before` is how many seats of its partition stand before the seat at a place.
pub distinct_more : (seats : List ℕ) (replicas place before x : ℕ) → before ≡ place % replicas →
    place < length seats → x ≡ get_or seats place 0
    → list_any (λ y. y == x) (slice_range seats (place - before) place) ≡ false
    → ((j k id : ℕ) → j < k → k < place → j / replicas ≡ k / replicas →
    slice_get seats j ≡ Some id → slice_get seats k ≡ Some id → ⊥)
    → (j k id : ℕ) → j < k → k < place + 1 → j / replicas ≡ k / replicas →
    slice_get seats j ≡ Some id → slice_get seats k ≡ Some id → ⊥
distinct_more seats replicas place before x count lt is none apart j k id less below same one other =
    ⊎_elim (λ earlier. apart j k id less earlier same one other) (λ late.
    let here : k ≡ place = omega arith in
    let start : place - before ≤ j = subst (λ (m : ℕ). place - m ≤ j) (sym count)
    (same_row j place replicas (same ∙ ap (λ (m : ℕ). m / replicas) here)) in
    let first : ℕ = place - before in
    let inside : j - first < place - first = omega arith in
    let there : first + (j - first) ≡ j = omega arith in
    let long : j - first < length (slice_range seats first place) =
    range_long seats first place (j - first) lt inside in
    let got : get_or (slice_range seats first place) (j - first) 0 ≡ id =
    in_range seats first place (j - first) inside ∙ ap (λ (m : ℕ). get_or seats m 0) there ∙
    get_or_from_slice_get seats j id 0 one in
    let twin : x ≡ id = is ∙ ap (λ (m : ℕ). get_or seats m 0) (sym here) ∙ get_or_from_slice_get
    seats k id 0 other in
    let no = any_fails_at (λ (y : ℕ). y == x) (slice_range seats first place) (j - first) 0 none
    long in
    eqb-false _ _ no (got ∙ sym twin)) (cases_lt k place)
  where
    range_long : (xs : List ℕ) (first last k : ℕ) → last < length xs → k < last - first →
        k < length (slice_range xs first last)
    range_long xs first last k lt inside = simp (length-take, length-drop) (omega arith)

pub distinct_fails : (seats : List ℕ) (replicas place before x : ℕ) → before ≡ place % replicas →
    0 < replicas → place < length seats → x ≡ get_or seats place 0
    → list_any (λ y. y == x) (slice_range seats (place - before) place) ≡ true →
    AreDistinct replicas seats → ⊥
distinct_fails seats replicas place before x count some lt is found distinct =
    let first : ℕ = place - place % replicas in
    let among : list_any (λ y. y == x) (slice_range seats first place) ≡ true =
    subst (λ (m : ℕ). list_any (λ y. y == x) (slice_range seats (place - m) place) ≡ true) count
    found in
    let a = Any-from_list_any (λ (y : ℕ). y == x) (slice_range seats first place) among in
    let m : ℕ = a.0 in
    let whole = div-add-mod place replicas in
    let part : place % replicas < replicas = mod-lt place some in
    let start : first ≡ place / replicas * replicas = row_start place replicas ∙ mul_comm replicas
    (place / replicas) in
    let inside : m < place - first =
    omega (arith, a.2, length-take (place - first) (drop first seats)) in
    let value : get_or seats (first + m) 0 ≡ x = sym (in_range seats first place m inside) ∙
    get_or_default (slice_range seats first place) m 0 a.1 a.2 ∙ a.3 ∙ eqb-true a.1 x a.4 in
    let one : slice_get seats (place / replicas * replicas + m) ≡ Some x =
    subst (λ (n : ℕ). slice_get seats (n + m) ≡ Some x) start (slice_get_is seats (first + m) x
    (omega arith) value) in
    let here : place / replicas * replicas + place % replicas ≡ place =
    omega (arith, mul_comm replicas (place / replicas)) in
    let other : slice_get seats (place / replicas * replicas + place % replicas) ≡ Some x =
    subst (λ (n : ℕ). slice_get seats n ≡ Some x) (sym here) (slice_get_is seats place x lt
    (sym is)) in
    let lower : m < place % replicas = omega arith in
    let equal = distinct (place / replicas) m (place % replicas) x (omega arith) part one other in
    omega arith
  where
    slice_get_is : (xs : List ℕ) (k y : ℕ) → k < length xs → get_or xs k 0 ≡ y →
        slice_get xs k ≡ Some y
    slice_get_is xs k y lt e = slice_get-get_or xs k 0 lt ∙ ap Some e

pub distinct_all : (seats : List ℕ) (replicas place : ℕ) → length seats ≤ place
    → ((j k id : ℕ) → j < k → k < place → j / replicas ≡ k / replicas →
    slice_get seats j ≡ Some id → slice_get seats k ≡ Some id → ⊥) → AreDistinct replicas seats
distinct_all seats replicas place end before partition one other id lo lt first second =
    ⊎_elim (λ e. e) (λ differ. absurd (⊎_elim
    (λ less. apart one other lo lt less first second)
    (λ more. apart other one lt lo (let no = differ in omega arith) second first)
    (cases_lt one other))) (cases_eq one other)
  where
    apart : (a b : ℕ) → a < replicas → b < replicas → a < b →
        slice_get seats (partition * replicas + a) ≡ Some id →
        slice_get seats (partition * replicas + b) ≡ Some id → ⊥
    apart a b la lb less x y =
        let within = slice_get_within seats (partition * replicas + b) id y in
        before (partition * replicas + a) (partition * replicas + b) id (omega arith) (omega arith)
        (div-mul-add partition replicas a la ∙ sym (div-mul-add partition replicas b lb)) x y
