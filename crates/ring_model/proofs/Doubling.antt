-- Rows of a width, each twice.
use Rattle.std.proofs.Common.{◌≡◌, ℕ, zero, suc, ◌+◌, ◌*◌, ◌/◌, ◌%◌, ◌<◌, ◌≤◌, List, [], ◌∷◌, ◌++◌}
use Rattle.std.proofs.Common.{length, get_or, Some, refl, sym, ap, ◌∙◌, ⊎_elim, arith}
use Rattle.std.specs.Prelude.{slice_get}
use Rattle.std.proofs.Math.Nat.{mul_comm, mul_assoc, mul-le-mul_right, mod-lt}
use Rattle.std.proofs.lemmas.Bool.{cases_lt}
use Rattle.std.proofs.lemmas.Nat.{div-mul-add, mod-mul-add, mul-add-lt, div_below}
use Rattle.std.proofs.lemmas.Option.{slice_get_past, slice_get-get_or}

-- where a place of the doubled rows comes from
pub half_place : (k width rows : ℕ) → 0 < width → k < 2 * (rows * width) →
    k / width / 2 * width + k % width < rows * width
half_place k width rows some lt =
    let row : k / width < 2 * rows = div_below k width (2 * rows) some (rw (mul_assoc 2 rows width)
    lt) in
    let part : k % width < width = mod-lt k some in
    rw (mul_comm rows width) (mul-add-lt (k / width / 2) width (k % width) rows (omega arith) part)

slice_get-left : {X : Type 0} (xs ys : List X) (k : ℕ) → k < length xs →
    slice_get (xs ++ ys) k ≡ slice_get xs k
slice_get-left [] ys k lt = absurd (omega arith)
slice_get-left (x ∷ xs) ys zero lt = refl
slice_get-left (x ∷ xs) ys (suc k) lt = slice_get-left xs ys k (omega arith)

slice_get-last : {X : Type 0} (xs : List X) (y : X) (k : ℕ) → k ≡ length xs →
    slice_get (xs ++ y ∷ []) k ≡ Some y
slice_get-last [] y k e = rw e refl
slice_get-last (x ∷ xs) y zero e = absurd (omega arith)
slice_get-last (x ∷ xs) y (suc k) e = slice_get-last xs y k (omega arith)

-- one more place was copied
pub copied_more : {X : Type 0} (items twice : List X) (from : ℕ → ℕ) (place : ℕ) (x : X) →
    length twice ≡ place → from place < length items → x ≡ get_or items (from place) x
    → ((k : ℕ) → k < place → slice_get twice k ≡ slice_get items (from k)) → (k : ℕ) →
    k < place + 1 → slice_get (twice ++ x ∷ []) k ≡ slice_get items (from k)
copied_more items twice from place x count inside is copied k lt =
    ⊎_elim
    (λ before. slice_get-left twice (x ∷ []) k (omega arith) ∙ copied k before)
    (λ past.
    let here : k ≡ place = omega arith in
    slice_get-last twice x k (omega arith) ∙ ap Some is ∙ sym (slice_get-get_or items (from place) x
    inside) ∙ ap (λ (n : ℕ). slice_get items (from n)) (sym here))
    (cases_lt k place)

half_is : {X : Type 0} (items twice : List X) (rows width : ℕ) → length items ≡ rows * width →
    length twice ≡ 2 * length items
    → ((k : ℕ) → k < length twice → slice_get twice k ≡ slice_get items (k / width / 2 * width + k %
    width))
    → (row half place : ℕ) → place < width → half / 2 ≡ row → slice_get twice (half * width + place)
    ≡ slice_get items (row * width + place)
half_is items twice rows width whole count copied row half place lt is =
    ⊎_elim
    (λ inside. copied (half * width + place) inside ∙ rw (
      div-mul-add half width place lt,
      mod-mul-add half width place lt,
      is,
    ) refl)
    (λ past.
    let above : rows ≤ row = ⊎_elim (λ below.
    let low : half < 2 * rows = omega arith in
    let short = mul-add-lt half width place (2 * rows) low lt in
    absurd (omega (arith, mul_comm width (2 * rows), mul_assoc 2 rows width))) (λ le. le)
    (cases_lt row rows) in
    let beyond : length items ≤ row * width + place = omega (arith, mul-le-mul_right width above) in
    slice_get_past twice (half * width + place) past ∙ sym
    (slice_get_past items (row * width + place) beyond))
    (cases_lt (half * width + place) (length twice))

pub halves : {X : Type 0} (items twice : List X) (rows width : ℕ) → length items ≡ rows * width →
    length twice ≡ 2 * length items
    → ((k : ℕ) → k < length twice → slice_get twice k ≡ slice_get items (k / width / 2 * width + k %
    width))
    → (row place : ℕ) → place < width → (slice_get twice (2 * row * width + place) ≡ slice_get items
    (row * width + place)) × (slice_get twice ((2 * row + 1) * width + place) ≡ slice_get items
    (row * width + place))
halves items twice rows width whole count copied row place lt = (
  half_is items twice rows width whole count copied row (2 * row) place lt (omega arith),
  half_is items twice rows width whole count copied row (2 * row + 1) place lt (omega arith),
)
