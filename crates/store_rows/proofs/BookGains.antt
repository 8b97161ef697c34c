-- A book with one more request.
use Rattle.std.proofs.Common.{◌≡◌, inl, inr, ℕ, ◌+◌, ◌<◌, ◌≤◌, suc, zero, pos, false, cond, List}
use Rattle.ring_words.specs.Limits.{most_numbers}
use Rattle.std.proofs.Common.{[], ◌∷◌, ◌++◌, map, length, Some, None, All, refl, sym, ap, subst}
use Rattle.std.proofs.Common.{◌∙◌, arith, zero-add}
use Rattle.std.specs.List.{enumerate_from, AllPairs, AllByRecursion}
use Rattle.std.proofs.lemmas.List.Quantifiers.{all_pairs_push}
use Rattle.std.specs.FinMap as maps
use Rattle.std.specs.Ordering.{int_cmp}
use Rattle.std.specs.Cmp.{int_cmp_total}
use Rattle.std.proofs.lemmas.List.{length-append}
use Rattle.std.proofs.lemmas.List.Elements.{All-append, All-cons, All-nil, recursion_from_All}
use Rattle.std.proofs.lemmas.List.Elements.{All-from_recursion}
use Rattle.std.proofs.lemmas.Bool.{cases_Bool}
use Rattle.ring_words.specs.declared.request.Key.{Key}
use Rattle.request_book.specs.Content.{entry_of, same_key}
use Rattle.request_book.specs.Run.{last_hour}
use Rattle.store_model.specs.Entries as rows
use Rattle.store_model.specs.Contents.{Contents, with_meta_row, with_request}
use Rattle.store_model.proofs.Keys.{name_number_total, name_number_exact}
use Rattle.store_rows.specs.Stands.{DecidedRequest, RingContent, IsDecision, IsHoldable}
use Rattle.store_rows.specs.Stands.{contents_for, gained, key_of_request, meta_value, request_entry}
use Rattle.store_rows.specs.Stands.{request_entries}
use Rattle.store_rows.proofs.Maps.{put_again}
use Rattle.store_rows.proofs.RequestKeys.{IsRowOf, row_of_entry}

pub entries-more : (n : ℕ) (book : List DecidedRequest) (e : DecidedRequest) →
    map request_entry (enumerate_from n (book ++ e ∷ [])) ≡ map request_entry
    (enumerate_from n book) ++ request_entry (n + length book, e) ∷ []
entries-more n [] e = ap (λ k. request_entry (k, e) ∷ []) (omega arith)
entries-more n (b ∷ bs) e =
    ap (λ es. request_entry (n, b) ∷ es) (entries-more (n + 1) bs e ∙ ap (λ k. map request_entry
    (enumerate_from (n + 1) bs) ++ request_entry (k, e) ∷ []) (let h : (n + 1) + length bs ≡ n +
    suc (length bs) = omega arith in h))

abbrev changed : RingContent → maps.FinMap int_cmp rows.Meta → maps.FinMap rows.name_number_cmp
    rows.Request → Contents
changed content m r = record (contents_for content) { meta = m; requests = r }

module _ (content : RingContent) (e : DecidedRequest) (none : entry_of e.key content.book ≡ None)
  where
    new_key : maps.find rows.name_number_cmp (key_of_request e.key) (request_entries content.book) ≡
        None
    new_key = subst (λ o. IsRowOf o (maps.find rows.name_number_cmp (key_of_request e.key)
        (request_entries content.book))) none (row_of_entry e.key 0 content.book)

    requests-more : maps.from_entries {K = rows.NameNumber} {R = rows.name_number_cmp}
        (request_entries (content.book ++ e ∷ []))
        ≡ maps.insert (maps.from_entries (request_entries content.book)) (key_of_request e.key)
        (request_entry (length content.book, e)).1
    requests-more =
        ap (λ es. maps.from_entries {K = rows.NameNumber} {R = rows.name_number_cmp} es)
        (entries-more 0 content.book e ∙ ap (λ k. request_entries content.book ++
        request_entry (k, e) ∷ []) (zero-add (length content.book)))
        ∙ maps.from_entries_push name_number_total name_number_exact (request_entries content.book)
        (key_of_request e.key) (request_entry (length content.book, e)).1 new_key

    -- the row of a request beside those of the book, and the row on the whole store anew
    pub stands_more : (key : rows.NameNumber) (row : rows.Request) (now : rows.Meta) →
        key ≡ key_of_request e.key → row ≡ (request_entry (length content.book, e)).1 →
        now ≡ meta_value 2 e.hour
        → with_meta_row (with_request (contents_for content) key row) (pos 1) now ≡ contents_for
        (gained content e)
    stands_more key row now at is meta =
        ap (λ k. with_meta_row (with_request (contents_for content) k row) (pos 1) now) at
        ∙ ap (λ r. with_meta_row (with_request (contents_for content) (key_of_request e.key) r) (pos
        1)
        now) is
        ∙ ap (λ m. with_meta_row (with_request (contents_for content) (key_of_request e.key)
        (request_entry (length content.book, e)).1) (pos 1) m) meta
        ∙ ap (λ m. changed content m (maps.insert (maps.from_entries (request_entries content.book))
        (key_of_request e.key) (request_entry (length content.book, e)).1))
        (put_again int_cmp_total maps.int_cmp-IsAntisymmetric (pos 1) (meta_value 2 content.hour)
        (meta_value 2 e.hour))
        ∙ ap (λ r. changed content (maps.from_entries ((pos 1, meta_value 2 e.hour) ∷ [])) r)
        (sym requests-more)

-- ---- a book that can be held

pub pairs-tail : {X : Type 0} (R : X → X → Type 0) (x : X) (xs : List X) → AllPairs R (x ∷ xs) →
    AllPairs R xs
pairs-tail R x xs pairs = λ i j d less lt. pairs (suc i) (suc j) d (omega arith) (omega arith)

pub pairs-head : {X : Type 0} (R : X → X → Type 0) (x : X) (xs : List X) → AllPairs R (x ∷ xs) →
    All (R x) xs
pairs-head R x xs pairs = λ k d lt. pairs zero (suc k) d (omega arith) (omega arith)

abbrev pub Later : DecidedRequest → DecidedRequest → Type 0
Later a b = a.hour ≤ b.hour

up_to_last : (hour first : ℕ) (book : List DecidedRequest) →
    AllByRecursion (λ (b : DecidedRequest). hour ≤ b.hour) book → hour ≤ first →
    hour ≤ last_hour first book
up_to_last hour first [] all low = low
up_to_last hour first (b ∷ bs) all low = up_to_last hour b.hour bs all.1 all.0

pub all_before : (hour : ℕ) (book : List DecidedRequest) → AllPairs Later book →
    All (λ (b : DecidedRequest). b.hour ≤ last_hour hour book) book
all_before hour [] rise = All-nil _
all_before hour (b ∷ bs) rise =
    All-cons (λ (x : DecidedRequest). x.hour ≤ last_hour b.hour bs) b bs
    (up_to_last b.hour b.hour bs (recursion_from_All (Later b) bs (pairs-head Later b bs rise))
    (omega arith))
    (all_before b.hour bs (pairs-tail Later b bs rise))

apart_from : (key : Key) (book : List DecidedRequest) → entry_of key book ≡ None →
    AllByRecursion (λ (b : DecidedRequest). same_key b.key key ≡ false) book
apart_from key [] none = tt
apart_from key (b ∷ bs) none = elim (cases_Bool (same_key b.key key)) [
  | inl here ↦ let found : cond (same_key b.key key) (Some b) (entry_of key bs) ≡ Some b =
      rw here refl in absurd (let h : Some b ≡ None = sym found ∙ none in cc)
  | inr other ↦ (
    other,
    apart_from key bs (sym (let rest : cond (same_key b.key key) (Some b)
        (entry_of key bs) ≡ entry_of key bs = rw other refl in rest) ∙ none),
  )
]

pub last-more : (first : ℕ) (book : List DecidedRequest) (e : DecidedRequest) →
    last_hour first (book ++ e ∷ []) ≡ e.hour
last-more first [] e = refl
last-more first (b ∷ bs) e = last-more b.hour bs e

pub holds_more : (content : RingContent) (e : DecidedRequest) → IsHoldable content →
    length content.book < most_numbers → IsDecision e → entry_of e.key content.book ≡ None →
    content.hour ≤ e.hour → IsHoldable (gained content e)
holds_more content e held few decided none later =
    let one : length (e ∷ []) ≡ 1 = omega arith in
    record {
      rings = held.rings;
      texts = held.texts;
      book = record {
        count = omega (arith, length-append content.book (e ∷ []));
        apart = all_pairs_push (λ (a b : DecidedRequest). same_key a.key b.key ≡ false) content.book
            e held.book.apart
            (λ k d lt. All-from_recursion (λ (b : DecidedRequest). same_key b.key e.key ≡ false)
            content.book (apart_from e.key content.book none) k d lt);
        each = All-append IsDecision content.book (e ∷ []) held.book.each (All-cons IsDecision e []
            decided (All-nil IsDecision));
        rise = all_pairs_push Later content.book e held.book.rise
            (λ k d lt. let h = all_before content.hour content.book held.book.rise k d lt in
            let last = held.hour in omega arith);
      };
      hour = last-more e.hour content.book e;
      small = decided.hour;
    }
