-- The rows of a book, in the order of their places.
use Rattle.std.proofs.Common.{◌≡◌, ℕ, ◌+◌, ◌<◌, ◌≤◌, Bool, true, false, List, [], ◌∷◌, ◌++◌, map}
use Rattle.ring_words.specs.Limits.{most_numbers}
use Rattle.std.proofs.Common.{length, take, get_or, Ordering, Less, Equal, Greater, refl, sym, ap}
use Rattle.std.proofs.Common.{subst, ◌∙◌, arith, zero-add}
use Rattle.std.specs.List.{AllByRecursion, AllPairs, IsDistinct, enumerate_from}
use Rattle.std.specs.List.Sorted.{IsPermutation}
use Rattle.std.specs.Ordering.{is_eq, is_lt, eq_by_cmp}
use Rattle.std.specs.FinMap.{FinMap, entries, from_entries, is_sorted, entries_sorted}
use Rattle.std.specs.FinMap.{same_entries_map}
use Rattle.std.specs.FinMap.Entries.{below_all}
use Rattle.std.proofs.Common.{T}
use Rattle.std.proofs.lemmas.Bool.{and_parts}
use Rattle.std.proofs.lemmas.Cmp.{eq_by_cmp_equiv}
use Rattle.std.proofs.lemmas.List.{take_more, length-take-le, length-map}
use Rattle.std.proofs.lemmas.List.FromFn.{length-enumerate_from}
use Rattle.std.proofs.lemmas.List.Elements.{All-push, All-from_recursion}
use Rattle.std.proofs.lemmas.List.Kept.{AllPairs-cons}
use Rattle.std.proofs.lemmas.List.Quantifiers.{all_pairs_push}
use Rattle.std.proofs.lemmas.List.Sorted.{IsPermutation-map, IsPermutation-sym}
use Rattle.request_book.specs.Content.{same_key}
use Rattle.request_book.specs.Run.{last_hour}
use Rattle.store_model.specs.Entries as rows
use Rattle.store_model.specs.Contents.{request_of}
use Rattle.store_model.specs.declared.rows.RequestRow.{RequestRow}
use Rattle.store_model.proofs.Keys.{name_number_total, name_number_exact}
use Rattle.store_model.proofs.Permuted.{entries_are, keys_stay}
use Rattle.store_rows.specs.Stands.{DecidedRequest, IsBook, IsDecision, key_of_request}
use Rattle.store_rows.specs.Stands.{request_entry, request_entries}
use Rattle.store_rows.specs.Inner.Books.{IsSaid, SaysRequest}
use Rattle.store_rows.proofs.RequestKeys.{same_keys}
use Rattle.store_rows.proofs.BookGains.{entries-more, all_before, Later}
use Rattle.store_rows.proofs.Steps.{map_append}

pub none_said : IsSaid [] []
none_said = record {
  rows_are = refl;
  each = λ k d lt. absurd (omega arith);
  rise =
      λ i j d less lt. absurd (omega arith);
}

-- one more request behind those of a book
pub said_more : (rs : List RequestRow) (i : ℕ) (r : RequestRow) (book : List DecidedRequest)
    (e : DecidedRequest) (hour : ℕ) → i < length rs → r ≡ get_or rs i r
    → IsSaid (take i rs) book → last_hour 0 book ≡ hour → hour ≤ e.hour → SaysRequest i r e →
    IsSaid (take (i + 1) rs) (book ++ e ∷ [])
said_more rs i r book e hour lt is said last later says =
    let taken : take (i + 1) rs ≡ take i rs ++ r ∷ [] = take_more rs i r lt ∙ ap (λ y. take i rs ++
    y ∷ []) (sym is) in
    let count : i ≡ length book = sym (length-take-le i rs (omega arith)) ∙ sym
    (length-map (take i rs) request_of) ∙ ap length said.rows_are ∙ length-map
    (enumerate_from 0 book) request_entry ∙ length-enumerate_from 0 book in
    record {
      rows_are = ap (map request_of) taken ∙ map_append request_of (take i rs) (r ∷ []) ∙ ap
          (λ es. es ++ request_of r ∷ []) said.rows_are
          ∙ ap (λ x. request_entries book ++ x ∷ []) (says.0 ∙ ap (λ k. request_entry (k, e))
          (count ∙ sym (zero-add (length book)))) ∙ sym (entries-more 0 book e);
      each = All-push IsDecision book e said.each says.1;
      rise = all_pairs_push Later book e said.rise (λ k d l. let h = all_before 0 book said.rise k d
          l in let up = last in omega arith);
    }

below_apart : {K V : Type 0} (R : K → K → Ordering) (k : K) (es : List (K × V)) →
    below_all R k es ≡ true → AllByRecursion (λ (y : K). eq_by_cmp R k y ≡ false)
    (map (λ (e : K × V). e.0) es)
below_apart R k [] below = tt
below_apart R k (e ∷ es) below = let parts = and_parts _ _ below in (
  less_apart (R k e.0) parts.0,
  below_apart R k es parts.1,
)
  where
    less_apart : (o : Ordering) → is_lt o ≡ true → is_eq o ≡ false
    less_apart Less h = refl
    less_apart Equal h = cc
    less_apart Greater h = refl

pub sorted_distinct : {K V : Type 0} (R : K → K → Ordering) (es : List (K × V)) →
    is_sorted R es ≡ true → IsDistinct (eq_by_cmp R) (map (λ (e : K × V). e.0) es)
unfolding IsDistinct
sorted_distinct R [] up = tt
sorted_distinct R (e ∷ es) up = let parts = and_parts _ _ up in (
  below_apart R e.0 es parts.0,
  sorted_distinct R es parts.1,
)

is_true : (b : Bool) → T b → b ≡ true
is_true true t = refl
is_true false t = absurd t

apart_all : (b : DecidedRequest) (n : ℕ) (es : List DecidedRequest) →
    AllByRecursion (λ (k : rows.NameNumber). eq_by_cmp rows.name_number_cmp (key_of_request b.key) k
    ≡ false) (map (λ (e : rows.NameNumber × rows.Request). e.0)
    (map request_entry (enumerate_from n es)))
    → AllByRecursion (λ (x : DecidedRequest). same_key b.key x.key ≡ false) es
apart_all b n [] all = tt
apart_all b n (x ∷ es) all = (
  sym (same_keys x.key b.key) ∙ sym
      ((eq_by_cmp_equiv name_number_total).symm (key_of_request b.key) (key_of_request x.key)) ∙
      all.0,
  apart_all b (n + 1) es all.1,
)

pairs_apart : (n : ℕ) (es : List DecidedRequest) → IsDistinct (eq_by_cmp rows.name_number_cmp)
    (map (λ (e : rows.NameNumber × rows.Request). e.0) (map request_entry (enumerate_from n es)))
    → AllPairs (λ (a b : DecidedRequest). same_key a.key b.key ≡ false) es
unfolding IsDistinct
pairs_apart n [] apart = λ i j d less lt. absurd (omega arith)
pairs_apart n (x ∷ es) apart = AllPairs-cons (λ (a b : DecidedRequest). same_key a.key b.key ≡
    false) x es (All-from_recursion (λ (y : DecidedRequest). same_key x.key y.key ≡ false) es
    (apart_all x (n + 1) es apart.0)) (pairs_apart (n + 1) es apart.1)

-- rows that a book says in another order are those of its map
module _ (rs sorted : List RequestRow) (m : FinMap rows.name_number_cmp rows.Request)
    (moved : IsPermutation rs sorted) (all : map request_of rs ≡ entries m)
    (book : List DecidedRequest) (said : IsSaid sorted book) where
  up : is_sorted rows.name_number_cmp (map request_of rs) ≡ true
  up = ap (is_sorted rows.name_number_cmp) all ∙ is_true _ (entries_sorted m)

  same : IsPermutation (map request_of rs) (request_entries book)
  same = subst (IsPermutation (map request_of rs)) said.rows_are (IsPermutation-map request_of rs
      sorted moved)

  distinct : IsDistinct (eq_by_cmp rows.name_number_cmp)
      (map (λ (e : rows.NameNumber × rows.Request). e.0) (request_entries book))
  distinct = keys_stay name_number_total name_number_exact (map request_of rs)
      (request_entries book) same (sorted_distinct rows.name_number_cmp (map request_of rs) up)

  pub map_said : m ≡ from_entries (request_entries book)
  map_said = same_entries_map m (from_entries (request_entries book))
      (sym all ∙ sym (entries_are name_number_total name_number_exact (request_entries book)
      (map request_of rs) (IsPermutation-sym (map request_of rs) (request_entries book) same)
      distinct up))

  pub length_said : length sorted ≡ length book
  length_said = sym (length-map sorted request_of) ∙ ap length said.rows_are ∙ length-map
      (enumerate_from 0 book) request_entry ∙ length-enumerate_from 0 book

  pub book_said : length sorted ≤ most_numbers → IsBook book
  book_said few = record {
    count = subst (λ n. n ≤ most_numbers) length_said few;
    apart = pairs_apart 0 book distinct;
    each = said.each;
    rise = said.rise;
  }

pub last_of : (hour : ℕ) (book : List DecidedRequest) → (0 < length book → last_hour 0 book ≡ hour)
    → last_hour hour book ≡ hour
last_of hour [] is = refl
last_of hour (e ∷ es) is = is (omega arith)
