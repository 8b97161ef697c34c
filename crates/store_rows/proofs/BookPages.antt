-- The rows of a book from a place on are read as that part of the book.
use Rattle.std.proofs.Common.{◌≡◌, ℕ, zero, suc, ◌+◌, ◌<◌, ◌≤◌, ℤ, pos, true, false, cond, List}
use Rattle.std.proofs.Common.{[], ◌∷◌, map, take, drop, length, Ok, Err, Result, IfOk, refl, sym, ap}
use Rattle.std.proofs.Common.{subst, ◌∙◌, arith, zero-add, to_z, of_z, w64, Vec, Global}
use Rattle.std.proofs.lemmas.Int.{ints}
use Rattle.std.specs.Prelude.{IsErrOf, filter}
use Rattle.std.specs.List.{AllByRecursion, AllPairs, AllZip, enumerate_from}
use Rattle.std.specs.List.Sorted.{IsPermutation, IsSortedByKey}
use Rattle.std.specs.Ordering.{int_cmp, is_ge, is_lt, ordering_reverse}
use Rattle.std.specs.Cmp.{int_cmp_total}
use Rattle.std.specs.FinMap.{entries, from_entries, int_cmp-IsAntisymmetric}
use Rattle.std.proofs.lemmas.Cmp.{tied_itself}
use Rattle.std.proofs.lemmas.List.{length-drop, length-take, map-id, take-map}
use Rattle.std.proofs.lemmas.List.Elements.{recursion_from_All}
use Rattle.std.proofs.lemmas.List.Sorted.{IsPermutation-map, IsPermutation-trans, ranks_by}
use Rattle.std.proofs.lemmas.List.Sorted.{sorted_far}
use Rattle.ring_words.specs.Limits.{long_count}
use Rattle.ring_words.specs.Spelling.{Reads}
use Rattle.ring_words.specs.declared.command.Command.{Command}
use Rattle.ring_words.specs.declared.command.Reply.{Reply}
use Rattle.ring_words.specs.declared.spelling.SpellingFault.{SpellingFault}
use Rattle.ring_words.specs.declared.spelling.SpellingFault.TheVariants.{Bad, NoMemory}
use Rattle.ring_messages.specs.Commands.{canonical, IsProperCommand}
use Rattle.ring_messages.specs.Replies.{reply_text, IsProperReply}
use Rattle.request_book.specs.Content.{entries_from}
use Rattle.store_model.specs.Entries as rows
use Rattle.store_model.specs.Contents.{request_of}
use Rattle.store_model.specs.Pages.{IsPage, stands_from}
use Rattle.store_model.specs.declared.rows.RequestRow.{RequestRow}
use Rattle.store_model.proofs.Keys.{name_number_total, name_number_exact}
use Rattle.store_model.proofs.Permuted.{entries_are, keys_stay, made_passed}
use Rattle.store_rows.specs.Stands.{DecidedRequest, IsBook, IsDecision, IsHoldable, RingContent}
use Rattle.store_rows.specs.Stands.{contents_for, request_entry, request_entries}
use Rattle.store_rows.specs.Inner.Books.{SaysRequest}
use Rattle.store_rows.specs.Inner.Found.{ReadsRow, StandsForRequest}
use Rattle.store_rows.proofs.BookGains.{pairs-head, pairs-tail}
use Rattle.store_rows.proofs.BookOpens.{book_distinct}
use Rattle.store_rows.proofs.BookRows.{sorted_distinct}
use Rattle.store_rows.proofs.Maps.{entries_of}
use Rattle.store_rows.proofs.Moved.{Named, Weakly, book_up, placed, strictly, unplaced}
use Rattle.store_rows.proofs.OneBook.{one_request}
use Rattle.store_rows.proofs.Ordered.{int_less}
use Rattle.store_rows.proofs.Reading.{one_number}

-- ---- which rows of a book stand from a place on

no_less : (m j : ℕ) → is_ge (int_cmp (pos (m + j)) (pos m)) ≡ true
no_less m zero =
    let same : m + 0 ≡ m = omega arith in
    ap (λ n. is_ge (int_cmp (pos n) (pos m))) same ∙ ap is_ge (tied_itself int_cmp_total (pos m))
no_less m (suc j) = ap is_ge (int_cmp_total.antisymm (pos (m + suc j)) (pos m)
    ∙ ap ordering_reverse (int_less m (m + suc j) (omega arith)))

-- the rows of a book, the first of which has this number
abbrev rows_of : ℕ → List DecidedRequest → List Named
rows_of n book = map request_entry (enumerate_from n book)

abbrev StandAll : ℕ → ℕ → List DecidedRequest → Type 0
StandAll m n book = filter (stands_from (pos m)) (rows_of n book) ≡ rows_of n book

all_stand : (m j : ℕ) (book : List DecidedRequest) → StandAll m (m + j) book
all_stand m j [] = refl
all_stand m j (b ∷ bs) =
    let next : m + suc j ≡ (m + j) + 1 = omega arith in
    let rest : StandAll m ((m + j) + 1) bs = subst (λ n. StandAll m n bs) next
    (all_stand m (suc j) bs) in
    let others = filter (stands_from (pos m)) (rows_of ((m + j) + 1) bs) in
    ap (λ t. cond t (request_entry (m + j, b) ∷ others) others) (no_less m j)
    ∙ ap (λ (es : List Named). request_entry (m + j, b) ∷ es) rest

-- those from a place on are the rows of what is left of the book there
stand_from : (n k : ℕ) (book : List DecidedRequest)
    → filter (stands_from (pos (n + k))) (rows_of n book) ≡ rows_of (n + k) (drop k book)
stand_from n zero book =
    let same : n + 0 ≡ n = omega arith in
    subst (λ m. filter (stands_from (pos m)) (rows_of n book) ≡ rows_of m book) (sym same)
    (subst (λ m. StandAll n m book) same (all_stand n 0 book))
stand_from n (suc k) [] = refl
stand_from n (suc k) (b ∷ bs) =
    let next : (n + 1) + k ≡ n + suc k = omega arith in
    let before : is_ge (int_cmp (pos n) (pos (n + suc k))) ≡ false =
    ap is_ge (int_less n (n + suc k) (omega arith)) in
    let others = filter (stands_from (pos (n + suc k))) (rows_of (n + 1) bs) in
    ap (λ t. cond t (request_entry (n, b) ∷ others) others) before
    ∙ subst (λ m. filter (stands_from (pos m)) (rows_of (n + 1) bs) ≡ rows_of m (drop k bs)) next
    (stand_from (n + 1) k bs)

take_enumerated : (most n : ℕ) (book : List DecidedRequest)
    → take most (enumerate_from n book) ≡ enumerate_from n (take most book)
take_enumerated zero n book = refl
take_enumerated (suc m) n [] = refl
take_enumerated (suc m) n (b ∷ bs) = ap (λ (es : List (ℕ × DecidedRequest)). (n, b) ∷ es)
    (take_enumerated m (n + 1) bs)

-- ---- in the order of their places

abbrev NotBelow : Named → Named → Type 0
NotBelow a b = is_lt (int_cmp b.1.place a.1.place) ≡ false

weak_all : (e : Named) (es : List Named) → AllByRecursion (NotBelow e) es
    → AllByRecursion (λ (x : ℤ × Named). is_lt (int_cmp x.0 e.1.place) ≡ false) (map placed es)
weak_all e [] all = tt
weak_all e (x ∷ es) all = (all.0, weak_all e es all.1)

weak_entries : (es : List Named) → AllPairs NotBelow es
    → Weakly int_cmp_total int_cmp-IsAntisymmetric (map placed es)
weak_entries [] pairs = tt
weak_entries (e ∷ es) pairs = (
  weak_all e es (recursion_from_All (NotBelow e) es (pairs-head NotBelow e es pairs)),
  weak_entries es (pairs-tail NotBelow e es pairs),
)

-- entries by rising places that are those of a book, in some order, are those of the book in its
-- order
entries_in_order : (ordered : List Named) (n : ℕ) (book : List DecidedRequest)
    → IsPermutation (rows_of n book) ordered
    → IsSortedByKey (λ (e : Named). e.1.place) int_cmp ordered → ordered ≡ rows_of n book
entries_in_order ordered n book moved up =
    let es = map placed (rows_of n book) in
    let fs = map placed ordered in
    let p = IsPermutation-map placed (rows_of n book) ordered moved in
    let apart = sorted_distinct int_cmp es (book_up n book) in
    let still = keys_stay int_cmp_total int_cmp-IsAntisymmetric es fs p apart in
    let pairs : AllPairs NotBelow ordered = λ i j d less lt. sorted_far _
    (ranks_by int_cmp_total (λ (e : Named). e.1.place)) ordered up i j d (omega arith) lt in
    let rises = strictly int_cmp_total int_cmp-IsAntisymmetric fs (weak_entries ordered pairs) still
    in
    let same : es ≡ fs =
    sym (entries_of int_cmp_total int_cmp-IsAntisymmetric es (book_up n book)) ∙ entries_are
    int_cmp_total int_cmp-IsAntisymmetric es fs p apart rises in
    sym (unplaced ordered) ∙ ap (map (λ (x : ℤ × Named). x.1)) (sym same)
    ∙ unplaced (rows_of n book)

-- a page of the rows of a book is the rows of that part of the book
page_is : (book : List DecidedRequest) (from most : ℕ) (shown : List Named) → IsBook book
    → IsPage (pos from) most (entries (from_entries {R = rows.name_number_cmp} (request_entries book)))
    shown → shown ≡ rows_of from (entries_from from most book)
page_is book from most shown held page =
    let es = request_entries book in
    let stands = stands_from (pos from) in
    let moved : IsPermutation (filter stands es) page.ordered = IsPermutation-trans _ _ _
    (made_passed name_number_total name_number_exact stands es (book_distinct 0 book
    held.apart)) page.each in
    let there : filter stands es ≡ rows_of from (drop from book) =
    subst (λ m. filter (stands_from (pos m)) es ≡ rows_of m (drop from book)) (zero-add from)
    (stand_from 0 from book) in
    let order = entries_in_order page.ordered from (drop from book)
    (subst (λ xs. IsPermutation xs page.ordered) there moved) page.rise in
    page.first ∙ ap (take most) order
    ∙ take-map request_entry most (enumerate_from from (drop from book))
    ∙ ap (map request_entry) (take_enumerated most from (drop from book))

-- ---- what the rows are read as

taken_all : {X : Type 0} (P : X → Type 0) (n : ℕ) (xs : List X) → AllByRecursion P xs
    → AllByRecursion P (take n xs)
taken_all P zero xs all = tt
taken_all P (suc n) [] all = tt
taken_all P (suc n) (x ∷ xs) all = (all.0, taken_all P n xs all.1)

dropped_all : {X : Type 0} (P : X → Type 0) (n : ℕ) (xs : List X) → AllByRecursion P xs
    → AllByRecursion P (drop n xs)
dropped_all P zero xs all = all
dropped_all P (suc n) [] all = tt
dropped_all P (suc n) (x ∷ xs) all = dropped_all P n xs all.1

stand_for : (place : ℕ) (rs : List RequestRow) (part : List DecidedRequest)
    → map request_of rs ≡ rows_of place part → AllByRecursion IsDecision part
    → place + length part ≤ long_count → AllZip StandsForRequest rs part
stand_for place [] [] is each small = tt
stand_for place [] (e ∷ part) is each small = cc
stand_for place (r ∷ rs) [] is each small = cc
stand_for place (r ∷ rs) (e ∷ part) is each small =
    let head : request_of r ≡ request_entry (place, e) = cc in
    let rest : map request_of rs ≡ rows_of (place + 1) part = cc in (
      record { place = place; is = head; small = omega (arith, small); decision = each.0 },
      stand_for (place + 1) rs part rest each.1 (omega (arith, small)),
    )

module _ (content : RingContent) (from most : ℕ) (rs : List RequestRow) (held : IsHoldable content)
    (small : from < long_count)
    (page : IsPage (pos from) most (entries (contents_for content).requests) (map request_of rs))
  where
    abbrev part : List DecidedRequest
    part = entries_from from most content.book

    all_part : AllZip StandsForRequest rs part
    all_part =
        let few = held.book.count in
        let left = length-drop from content.book in
        let cut = length-take most (drop from content.book) in
        stand_for from rs part (page_is content.book from most (map request_of rs) held.book page)
        (taken_all IsDecision most _ (dropped_all IsDecision from _
        (recursion_from_All IsDecision content.book held.book.each)))
        (omega (arith, small, few, left, cut))

    abbrev Found : Type 0
    Found = Result (Vec DecidedRequest Global) SpellingFault

    abbrev AreRead : Found → Type 0
    AreRead found = ReadsRow (λ (v : Vec DecidedRequest Global). map (λ (e : DecidedRequest). e)
        v.items) (AllZip StandsForRequest rs) found

    pub page_read : (found : Found) → AreRead found → IfOk found (λ v. v.items ≡ part)
    page_read (Ok v) read = sym (read part all_part ∙ map-id v.items)
    page_read (Err fault) read = tt

    pub page_good : (found : Found) → AreRead found → IsErrOf found Bad → ⊥
    page_good (Ok v) read bad = cc
    page_good (Err Bad) read bad = read part all_part
    page_good (Err NoMemory) read bad = cc

-- ---- one row

module _ (one_text : (c d : Command) → IsProperCommand c → IsProperCommand d →
    canonical c ≡ canonical d → c ≡ d)
    (one_reply : (r s : Reply) → IsProperReply r → IsProperReply s → reply_text r ≡ reply_text s →
    r ≡ s) (row : RequestRow) where
  -- a row that is read at its place is read as what it stands for
  pub one_read : (place : ℕ) (found : Result DecidedRequest SpellingFault)
      → to_z w64 (of_z w64 row.place) ≡ pos place
      → Reads (SaysRequest place row) found → ReadsRow (λ e. e) (StandsForRequest row) found
  one_read place (Ok e) at says = λ v stands.
      let same : request_entry (stands.place, v) ≡ request_entry (place, e) =
      sym stands.is ∙ says.0 in
      (one_request one_text one_reply stands.place place v e stands.decision says.1
      (ap (λ (x : Named). x.0) same) (ap (λ (x : Named). x.1) same)).1
  one_read place (Err Bad) at none = λ v stands.
      let same : stands.place ≡ place = one_number stands.place place row.place
      (ap (λ (x : Named). x.1.place) stands.is) stands.small at in
      none v (stands.is ∙ ap (λ n. request_entry (n, v)) same, stands.decision)
  one_read place (Err NoMemory) at none = tt

  -- one whose place is no number of 32 bits stands for nothing
  pub no_place : (fault : SpellingFault)
      → Reads {X = ℕ} (λ n. (to_z w64 (of_z w64 row.place) ≡ pos n) × (n < long_count)) (Err fault)
      → ReadsRow {X = DecidedRequest} (λ e. e) (StandsForRequest row) (Err fault)
  no_place Bad none = λ v stands.
      let small = stands.small in
      let kept : to_z w64 (of_z w64 (pos stands.place)) ≡ pos stands.place = omega (arith, ints) in
      none stands.place (
        ap (λ (x : Named). to_z w64 (of_z w64 x.1.place)) stands.is ∙ kept,
        small,
      )
  no_place NoMemory none = tt
