-- The rows of a book are read as that book.
use Rattle.std.proofs.Common.{◌≡◌, ℕ, zero, suc, ◌+◌, ◌<◌, ◌≤◌, pos, false, List, [], ◌∷◌, map}
use Rattle.std.proofs.Common.{Bool, IsTrue, zero-add, ◌↔◌, true, length, take, get_or, Err, refl, sym, ap, subst, ◌∙◌, arith}
use Rattle.std.specs.List.{AllByRecursion, AllPairs, IsDistinct, enumerate_from}
use Rattle.std.specs.List.Sorted.{IsPermutation, IsSortedByKey}
use Rattle.std.specs.Ordering.{eq_by_cmp, int_cmp}
use Rattle.std.specs.FinMap.{entries, from_entries}
use Rattle.std.proofs.lemmas.Cmp.{eq_by_cmp_equiv}
use Rattle.std.proofs.lemmas.List.{length-map}
use Rattle.std.proofs.lemmas.List.FromFn.{length-enumerate_from}
use Rattle.std.proofs.lemmas.List.Elements.{recursion_from_All}
use Rattle.std.proofs.lemmas.List.Sorted.{IsPermutation-map, IsPermutation-trans, length_permutation}
use Rattle.ring_words.specs.Spelling.{Reads}
use Rattle.ring_words.specs.declared.spelling.SpellingFault.{SpellingFault}
use Rattle.ring_words.specs.declared.spelling.SpellingFault.TheVariants.{Bad, NoMemory}
use Rattle.request_book.specs.Content.{same_key}
use Rattle.request_book.specs.Run.{last_hour}
use Rattle.store_model.specs.Entries as rows
use Rattle.store_model.specs.Contents.{request_of}
use Rattle.store_model.specs.declared.rows.RequestRow.{RequestRow}
use Rattle.store_model.proofs.Keys.{name_number_total, name_number_exact}
use Rattle.store_rows.specs.Stands.{DecidedRequest, IsBook, IsDecision, key_of_request}
use Rattle.store_rows.specs.Stands.{request_entry, request_entries}
use Rattle.store_rows.specs.Inner.Books.{IsSaid, SaysRequest}
use Rattle.store_rows.proofs.BookGains.{Later, pairs-head, pairs-tail}
use Rattle.store_rows.proofs.Moved.{in_order, made_moved}
use Rattle.store_rows.proofs.RequestKeys.{same_keys}

-- Where what a text spells gives what another one spells, and reading this one failed, reading that
-- one fails likewise.
pub spells_likewise : {X Y : Type 0} (Spells : X → Type 0) (Other : Y → Type 0)
    (fault : SpellingFault) → Reads Spells (Err fault) → ((y : Y) → Other y → (x : X) × Spells x) →
    Reads Other (Err fault)
spells_likewise Spells Other Bad read gives = λ y holds. let x = gives y holds in read x.0 x.1
spells_likewise Spells Other NoMemory read gives = tt

-- the hour of a request that is said at a place is the one that is read there
pub same_hour : (i j : ℕ) (a b : DecidedRequest) → request_entry (i, a) ≡ request_entry (j, b) →
    a.hour ≡ b.hour
same_hour i j a b is =
    let hours : pos a.hour ≡ pos b.hour = ap (λ (e : rows.NameNumber × rows.Request). e.1.hour) is in
    cc

-- The row at a place is that of a request, at an hour that is not before those of the rows in front.
pub next_said : (h n : ℕ) (rs : List RequestRow) (book so_far : List DecidedRequest) (i : ℕ)
    (r : RequestRow) → map request_of rs ≡ map request_entry (enumerate_from n book)
    → map request_of (take i rs) ≡ map request_entry (enumerate_from n so_far)
    → AllByRecursion (λ (b : DecidedRequest). h ≤ b.hour) book → AllPairs Later book →
    AllByRecursion IsDecision book → i < length rs → r ≡ get_or rs i r
    → (e : DecidedRequest) × (request_of r ≡ request_entry (n + i, e)) × IsDecision e ×
    (last_hour h so_far ≤ e.hour)
next_said h n [] book so_far i r all front low rise each lt is = absurd (omega arith)
next_said h n (x ∷ rs) [] so_far i r all front low rise each lt is = cc
next_said h n (x ∷ rs) (b ∷ bs) [] zero r all front low rise each lt is =
    let head : request_of x ≡ request_entry (n, b) = cc in (
      b,
      ap request_of is ∙ head ∙ ap (λ k. request_entry (k, b)) (let g : n ≡ n + 0 = omega arith in
          g),
      each.0,
      low.0,
    )
next_said h n (x ∷ rs) (b ∷ bs) (c ∷ cs) zero r all front low rise each lt is = cc
next_said h n (x ∷ rs) (b ∷ bs) [] (suc i) r all front low rise each lt is = cc
next_said h n (x ∷ rs) (b ∷ bs) (c ∷ cs) (suc i) r all front low rise each lt is =
    let head : request_of x ≡ request_entry (n, b) = cc in
    let read : request_of x ≡ request_entry (n, c) = cc in
    let rest : map request_of rs ≡ map request_entry (enumerate_from (n + 1) bs) = cc in
    let before : map request_of (take i rs) ≡ map request_entry (enumerate_from (n + 1) cs) = cc in
    let hours = same_hour n n b c (sym head ∙ read) in
    let more = next_said c.hour (n + 1) rs bs cs i r rest before
    (subst (λ k. AllByRecursion (λ (y : DecidedRequest). k ≤ y.hour) bs) hours
    (recursion_from_All (Later b) bs (pairs-head Later b bs rise))) (pairs-tail Later b bs rise)
    each.1 (omega arith) is in (
      more.0,
      more.1 ∙ ap (λ k. request_entry (k, more.0)) (let g : (n + 1) + i ≡ n + suc i = omega arith in
          g),
      more.2,
      more.3,
    )

from_zero : (book : List DecidedRequest) → AllByRecursion (λ (b : DecidedRequest). 0 ≤ b.hour) book
from_zero [] = tt
from_zero (b ∷ bs) = (omega arith, from_zero bs)

-- the same of the rows of a book from its first one on
pub said_at : (rs : List RequestRow) (book so_far : List DecidedRequest) (i : ℕ) (r : RequestRow) →
    IsSaid rs book → IsSaid (take i rs) so_far → i < length rs → r ≡ get_or rs i r →
    (e : DecidedRequest) × SaysRequest i r e × (last_hour 0 so_far ≤ e.hour)
said_at rs book so_far i r said front lt is =
    let at = next_said 0 0 rs book so_far i r said.rows_are front.rows_are (from_zero book)
    said.rise (recursion_from_All IsDecision book said.each) lt is in
    let there : request_of r ≡ request_entry (i, at.0) = at.1 ∙ ap (λ k. request_entry (k, at.0))
    (zero-add i) in
    (at.0, (there, at.2), at.3)

abbrev Apart : DecidedRequest → DecidedRequest → Type 0
Apart a b = same_key a.key b.key ≡ false

apart_rows : (b : DecidedRequest) (n : ℕ) (es : List DecidedRequest) → AllByRecursion (Apart b) es →
    AllByRecursion (λ (k : rows.NameNumber). eq_by_cmp rows.name_number_cmp (key_of_request b.key) k
    ≡ false) (map (λ (e : rows.NameNumber × rows.Request). e.0)
    (map request_entry (enumerate_from n es)))
apart_rows b n [] all = tt
apart_rows b n (x ∷ es) all = (
  (eq_by_cmp_equiv name_number_total).symm (key_of_request b.key) (key_of_request x.key) ∙
      same_keys x.key b.key ∙ all.0,
  apart_rows b (n + 1) es all.1,
)

pub book_distinct : (n : ℕ) (book : List DecidedRequest) → AllPairs Apart book →
    IsDistinct (eq_by_cmp rows.name_number_cmp) (map (λ (e : rows.NameNumber × rows.Request). e.0)
    (map request_entry (enumerate_from n book)))
unfolding IsDistinct
book_distinct n [] pairs = tt
book_distinct n (b ∷ bs) pairs = (
  apart_rows b (n + 1) bs (recursion_from_All (Apart b) bs (pairs-head Apart b bs pairs)),
  book_distinct (n + 1) bs (pairs-tail Apart b bs pairs),
)

-- the rows of a book, by their places, say that book
module _ (rs sorted : List RequestRow) (book : List DecidedRequest) (held : IsBook book)
    (moved : IsPermutation rs sorted)
    (all : map request_of rs ≡ entries (from_entries {R = rows.name_number_cmp} (request_entries book)))
  where
    permuted : IsPermutation (request_entries book) (map request_of sorted)
    permuted = IsPermutation-trans _ _ _
        (made_moved name_number_total name_number_exact (request_entries book) (book_distinct 0 book
        held.apart)) (subst (λ es. IsPermutation es (map request_of sorted)) all
        (IsPermutation-map request_of rs sorted moved))

    pub as_many : length sorted ≡ length book
    as_many = sym (length-map sorted request_of) ∙ length_permutation _ _ permuted
        ∙ length-map (enumerate_from 0 book) request_entry ∙ length-enumerate_from 0 book

    pub said_of : IsSortedByKey (λ (r : RequestRow). r.place) int_cmp sorted → IsSaid sorted book
    said_of up = record {
      rows_are = in_order sorted 0 book permuted up;
      each = held.each;
      rise = held.rise;
    }

-- the last hour of a book with a request is the same from any hour on
pub last_from : (h k : ℕ) (book : List DecidedRequest) → 0 < length book → last_hour h book ≡
    last_hour k book
last_from h k [] some = absurd (omega arith)
last_from h k (b ∷ bs) some = refl

-- A test that failed does not hold.
pub refuted : (Holds : Type 0) (b : Bool) → b ≡ false → (IsTrue b ↔ Holds) → Holds → ⊥
refuted Holds b is decides holds = let no : false ≡ true = subst IsTrue is (decides.1 holds) in cc
