-- Entries in the order of their keys, and in that of their places.
use Rattle.std.proofs.Common.{◌≡◌, ℕ, ◌+◌, ◌<◌, ℤ, pos, Bool, true, false, cond, List, [], ◌∷◌, map}
use Rattle.std.proofs.Common.{Option, Some, None, Ordering, Less, Equal, Greater, refl, sym}
use Rattle.std.proofs.Common.{ap, subst, ◌∙◌, arith}
use Rattle.std.specs.List.{AllByRecursion, AllPairs, IsDistinct, enumerate_from}
use Rattle.std.specs.List.Sorted.{IsPermutation, IsSortedByKey}
use Rattle.std.specs.Ordering.{eq_by_cmp, int_cmp, is_eq, is_lt, ordering_reverse}
use Rattle.std.specs.Cmp.{IsTotalOrder, int_cmp_total}
use Rattle.std.specs.FinMap.{entries, entries-insert, find, from_entries, get-entries}
use Rattle.std.specs.FinMap.{get-from_entries, int_cmp-IsAntisymmetric, is_sorted, IsAntisymmetric}
use Rattle.std.specs.FinMap.Entries.{below_all, by_order, put}
use Rattle.std.proofs.lemmas.Bool.{and_from}
use Rattle.std.proofs.lemmas.List.Elements.{recursion_from_All}
use Rattle.std.proofs.lemmas.List.Sorted.{IsPermutation-cons, IsPermutation-map, IsPermutation-refl}
use Rattle.std.proofs.lemmas.List.Sorted.{IsPermutation-swap, IsPermutation-trans, ranks_by}
use Rattle.std.proofs.lemmas.List.Sorted.{sorted_far}
use Rattle.store_model.specs.Entries as rows
use Rattle.store_model.specs.Contents.{request_of}
use Rattle.store_model.specs.declared.rows.RequestRow.{RequestRow}
use Rattle.store_model.proofs.Permuted.{entries_are, keys_stay}
use Rattle.store_rows.specs.Stands.{DecidedRequest, request_entry}
use Rattle.store_rows.proofs.BookGains.{pairs-head, pairs-tail}
use Rattle.store_rows.proofs.BookRows.{sorted_distinct}
use Rattle.store_rows.proofs.Maps.{entries_of}
use Rattle.store_rows.proofs.Ordered.{int_less}

less_if : (p q : Ordering) → p ≡ ordering_reverse q → is_lt q ≡ false → is_eq p ≡ false →
    is_lt p ≡ true
less_if p Less e l n = cc
less_if p Equal e l n = let tie = ap is_eq (sym e) ∙ n in cc
less_if p Greater e l n = ap is_lt e

split_none : {X : Type 0} (b : Bool) (x : X) (o : Option X) → cond b (Some x) o ≡ None →
    (b ≡ false) × (o ≡ None)
split_none true x o none = cc
split_none false x o none = (refl, none)

module _ {K V : Type 0} {R : K → K → Ordering} (o : IsTotalOrder R) (exact : IsAntisymmetric R)
  where
    none_at : (k : K) (es : List (K × V)) → AllByRecursion (λ (y : K). eq_by_cmp R k y ≡ false)
        (map (λ (e : K × V). e.0) es) → find R k es ≡ None
    none_at k [] all = refl
    none_at k (e ∷ es) all = ap (λ b. cond b (Some e.1) (find R k es)) all.0 ∙ none_at k es all.1

    moved_by : (r : Ordering) (k : K) (v : V) (e : K × V) (es : List (K × V)) → is_eq r ≡ false →
        IsPermutation ((k, v) ∷ es) (put R k v es) → IsPermutation ((k, v) ∷ e ∷ es)
        (by_order r ((k, v) ∷ e ∷ es) ((e.0, v) ∷ es) (e ∷ put R k v es))
    moved_by Less k v e es other rest = IsPermutation-refl _
    moved_by Equal k v e es other rest = cc
    moved_by Greater k v e es other rest = IsPermutation-trans _ _ _ (IsPermutation-swap
        ((k, v) ∷ e ∷ es) (e ∷ (k, v) ∷ es) 0 1 (omega arith) (omega arith) refl)
        (IsPermutation-cons e _ _ rest)

    moved_put : (k : K) (v : V) (es : List (K × V)) → find R k es ≡ None →
        IsPermutation ((k, v) ∷ es) (put R k v es)
    moved_put k v [] none = IsPermutation-refl _
    moved_put k v (e ∷ es) none =
        let parts = split_none (eq_by_cmp R k e.0) e.1 (find R k es) none in
        moved_by (R k e.0) k v e es parts.0 (moved_put k v es parts.1)

    -- entries of which each has a key of its own are those of their map, in another order
    pub made_moved : (es : List (K × V)) → IsDistinct (eq_by_cmp R) (map (λ (e : K × V). e.0) es) →
        IsPermutation es (entries (from_entries {R = R} es))
    unfolding IsDistinct
    made_moved [] apart = subst (IsPermutation []) (sym (entries_of o exact [] refl))
        (IsPermutation-refl [])
    made_moved (e ∷ es) apart =
        let none = sym (get-entries (from_entries {R = R} es) e.0) ∙ get-from_entries o es e.0 ∙
        none_at e.0 es apart.0 in
        subst (IsPermutation (e ∷ es)) (sym (entries-insert o (from_entries {R = R} es) e.0 e.1))
        (IsPermutation-trans _ _ _ (IsPermutation-cons e _ _ (made_moved es apart.1))
        (moved_put e.0 e.1 (entries (from_entries {R = R} es)) none))

    -- none is below one before it
    abbrev pub Weakly : List (K × V) → Type 0
    Weakly [] = Unit {0}
    Weakly (e ∷ es) = AllByRecursion (λ (x : K × V). is_lt (R x.0 e.0) ≡ false) es × Weakly es

    below_strictly : (k : K) (es : List (K × V)) →
        AllByRecursion (λ (x : K × V). is_lt (R x.0 k) ≡ false) es
        → AllByRecursion (λ (y : K). eq_by_cmp R k y ≡ false) (map (λ (e : K × V). e.0) es) →
        below_all R k es ≡ true
    below_strictly k [] weak apart = refl
    below_strictly k (e ∷ es) weak apart =
        and_from _ _ (less_if (R k e.0) (R e.0 k) (o.antisymm k e.0) weak.0 apart.0)
        (below_strictly k es weak.1 apart.1)

    pub strictly : (es : List (K × V)) → Weakly es →
        IsDistinct (eq_by_cmp R) (map (λ (e : K × V). e.0) es) → is_sorted R es ≡ true
    unfolding IsDistinct
    strictly [] weak apart = refl
    strictly (e ∷ es) weak apart = and_from _ _ (below_strictly e.0 es weak.0 apart.0)
        (strictly es weak.1 apart.1)

-- ---- the rows of a book, by their places

abbrev pub Named : Type 0
Named = rows.NameNumber × rows.Request

abbrev pub placed : Named → ℤ × Named
placed e = (e.1.place, e)

pub unplaced : (es : List Named) → map (λ (x : ℤ × Named). x.1) (map placed es) ≡ es
unplaced [] = refl
unplaced (e ∷ es) = ap (λ xs. e ∷ xs) (unplaced es)

places_below : (m n : ℕ) (book : List DecidedRequest) → m < n →
    below_all int_cmp (pos m) (map placed (map request_entry (enumerate_from n book))) ≡ true
places_below m n [] h = refl
places_below m n (b ∷ bs) h = and_from _ _ (ap is_lt (int_less m n h)) (places_below m (n + 1) bs
    (omega arith))

pub book_up : (n : ℕ) (book : List DecidedRequest) → is_sorted int_cmp (map placed (map request_entry
    (enumerate_from n book))) ≡ true
book_up n [] = refl
book_up n (b ∷ bs) = and_from _ _ (places_below n (n + 1) bs (omega arith)) (book_up (n + 1) bs)

abbrev NotBelow : RequestRow → RequestRow → Type 0
NotBelow a b = is_lt (int_cmp b.place a.place) ≡ false

weak_all : (r : RequestRow) (rs : List RequestRow) → AllByRecursion (NotBelow r) rs →
    AllByRecursion (λ (x : ℤ × Named). is_lt (int_cmp x.0 r.place) ≡ false)
    (map placed (map request_of rs))
weak_all r [] all = tt
weak_all r (x ∷ rs) all = (all.0, weak_all r rs all.1)

weak_rows : (rs : List RequestRow) → AllPairs NotBelow rs →
    Weakly int_cmp_total int_cmp-IsAntisymmetric (map placed (map request_of rs))
weak_rows [] pairs = tt
weak_rows (r ∷ rs) pairs = (
  weak_all r rs (recursion_from_All (NotBelow r) rs (pairs-head NotBelow r rs pairs)),
  weak_rows rs (pairs-tail NotBelow r rs pairs),
)

-- rows by rising places that are those of a book, in some order, are those of the book in its order
pub in_order : (sorted : List RequestRow) (n : ℕ) (book : List DecidedRequest) →
    IsPermutation (map request_entry (enumerate_from n book)) (map request_of sorted)
    → IsSortedByKey (λ (r : RequestRow). r.place) int_cmp sorted
    → map request_of sorted ≡ map request_entry (enumerate_from n book)
in_order sorted n book moved up =
    let book_rows = map request_entry (enumerate_from n book) in
    let es = map placed book_rows in
    let fs = map placed (map request_of sorted) in
    let p = IsPermutation-map placed book_rows (map request_of sorted) moved in
    let apart = sorted_distinct int_cmp es (book_up n book) in
    let still = keys_stay int_cmp_total int_cmp-IsAntisymmetric es fs p apart in
    let pairs : AllPairs NotBelow sorted = λ i j d less lt. sorted_far _
    (ranks_by int_cmp_total (λ (r : RequestRow). r.place)) sorted up i j d (omega arith) lt in
    let rises = strictly int_cmp_total int_cmp-IsAntisymmetric fs (weak_rows sorted pairs) still in
    let same : es ≡ fs =
    sym (entries_of int_cmp_total int_cmp-IsAntisymmetric es (book_up n book)) ∙ entries_are
    int_cmp_total int_cmp-IsAntisymmetric es fs p apart rises in
    sym (unplaced (map request_of sorted)) ∙ ap (map (λ (x : ℤ × Named). x.1)) (sym same) ∙
    unplaced book_rows
