-- The places of keys among the entries of a book.
use Rattle.std.proofs.Common.{◌++◌, ◌<◌, ◌≡◌, ◌∙◌, ◌∷◌, BTreeMap, Bool, List, None, Option, Some}
use Rattle.std.proofs.Common.{[], ap, ap₂, arith, cond, false, length, refl, subst, suc, sym, true}
use Rattle.std.proofs.Common.{zero, ℕ}
use Rattle.std.specs.Prelude.{◌&&◌, MatchOption}
use Rattle.std.specs.declared.cmp.Ordering.{Ordering}
use Rattle.std.specs.declared.cmp.Ordering.TheVariants.{Equal, Greater, Less}
use Rattle.std.specs.BTreeMap.{IsEmpty, get, is_at}
use Rattle.std.specs.Cmp.Lexicographic.{same_text, slice_cmp, texts_ties}
use Rattle.std.specs.Cmp.{unsigned_Decides, unsigned_ties}
use Rattle.std.specs.List.{slice_get}
use Rattle.std.specs.Option.{option_or}
use Rattle.std.specs.Ordering.{is_eq, nat_cmp, ordering_then}
use Rattle.std.proofs.lemmas.Bool.{and_parts}
use Rattle.std.proofs.lemmas.List.Folds.{find-append}
use Rattle.std.proofs.lemmas.Option.{MatchOption-at_some}
use Rattle.ring_words.specs.declared.request.Key.{Key}
use Rattle.request_book.specs.declared.entry.Entry.{Entry}
use Rattle.request_book.specs.Content.{entry_of, same_key}
use Rattle.request_book.specs.Inner.Index.{IsIndex, key_cmp}

-- keys that the test calls one are one
one_key : (a b : Key) → same_key a b ≡ true → a ≡ b
one_key a b same =
    let parts = and_parts _ _ same in
    let caller : a.caller ≡ b.caller = same_text a.caller b.caller (sym parts.0) in
    let number : a.number ≡ b.number = (unsigned_Decides a.number b.number).0 parts.1 in
    ap (λ (c : List ℕ). record { caller = c; number = a.number }) caller ∙ ap
    (λ (n : ℕ). record { caller = b.caller; number = n }) number

then_ties : (a b : Ordering) → is_eq (ordering_then a b) ≡ (is_eq a && is_eq b)
then_ties Less b = refl
then_ties Equal b = refl
then_ties Greater b = refl

-- keys compare as equal exactly where the test calls them one
key_ties : (a b : Key) → is_eq (key_cmp a b) ≡ same_key a b
key_ties a b =
    then_ties (slice_cmp nat_cmp a.caller b.caller) (nat_cmp a.number b.number)
    ∙ sym (ap₂ (λ (x y : Bool). x && y) (texts_ties a.caller b.caller) (unsigned_ties a.number
    b.number))

option_or_none : {X : Type 0} (o : Option X) → option_or o None ≡ o
option_or_none None = refl
option_or_none (Some x) = refl

module _ {C R : Type 0} where
  -- an entry before the end of a longer list
  get_before : (book : List (Entry C R)) (e : Entry C R) (place : ℕ) → place < length book →
      slice_get (book ++ e ∷ []) place ≡ slice_get book place
  get_before [] e place h = absurd (omega (arith, h))
  get_before (x ∷ book) e zero h = refl
  get_before (x ∷ book) e (suc place) h = get_before book e place (omega (arith, h))

  get_last : (book : List (Entry C R)) (e : Entry C R) → slice_get (book ++ e ∷ []) (length book) ≡
      Some e
  get_last [] e = refl
  get_last (x ∷ book) e = get_last book e

  longer : (book : List (Entry C R)) (e : Entry C R) → length (book ++ e ∷ []) ≡ suc (length book)
  longer [] e = refl
  longer (x ∷ book) e = ap suc (longer book e)

  -- what is found of a key with an entry more
  found_more : (key : Key) (book : List (Entry C R)) (e : Entry C R) → entry_of key (book ++ e ∷
      []) ≡ option_or (entry_of key book) (cond (same_key e.key key) (Some e) None)
  found_more key book e = find-append (λ (x : Entry C R). same_key x.key key) book (e ∷ [])

  module _ (places : BTreeMap Key ℕ) (book : List (Entry C R)) where
    pub place_of : IsIndex places book → (key : Key) (place : ℕ) →
        get key_cmp places key ≡ Some place → (place < length book) ×
        (slice_get book place ≡ entry_of key book)
    unfolding IsIndex
    place_of index key place is = MatchOption-at_some _ _ place is (index key)

    pub no_place : IsIndex places book → (key : Key) → get key_cmp places key ≡ None →
        entry_of key book ≡ None
    unfolding IsIndex
    no_place index key is = subst (λ o. MatchOption o (entry_of key book ≡ None)
        (λ place. (place < length book) × (slice_get book place ≡ entry_of key book))) is
        (index key)

  pub index_none : (places : BTreeMap Key ℕ) (book : List (Entry C R)) → IsEmpty places →
      book ≡ [] → IsIndex places book
  unfolding IsIndex
  index_none places book empty none key = rw (empty, none) refl

  pub index_same : (p q : BTreeMap Key ℕ) (b d : List (Entry C R)) → q.entries ≡ p.entries → d ≡ b →
      IsIndex p b → IsIndex q d
  unfolding IsIndex
  index_same p q b d same list index key = rw (same, list) (index key)

  abbrev Stands : List (Entry C R) → Key → Option ℕ → Type 0
  Stands book key o = MatchOption o (entry_of key book ≡ None) (λ place. (place < length book) ×
      (slice_get book place ≡ entry_of key book))

  -- a key that stood for an entry stands for it still
  stands_still : (book : List (Entry C R)) (e : Entry C R) (key : Key) (o : Option ℕ) →
      same_key e.key key ≡ false → Stands book key o → Stands (book ++ e ∷ []) key o
  stands_still book e key None other none = found_more key book e ∙ rw (none, other) refl
  stands_still book e key (Some place) other at =
      let within : place < length (book ++ e ∷ []) = omega (arith, at.0, longer book e) in
      let found : entry_of key (book ++ e ∷ []) ≡ entry_of key book =
      found_more key book e ∙ rw other (option_or_none (entry_of key book)) in
      (within, get_before book e place at.0 ∙ at.1 ∙ sym found)

  -- the new entry stands at the end
  stands_last : (book : List (Entry C R)) (e : Entry C R) (key : Key) → same_key e.key key ≡ true →
      entry_of e.key book ≡ None → Stands (book ++ e ∷ []) key (Some (length book))
  stands_last book e key same new =
      let none : entry_of key book ≡ None = subst (λ k. entry_of k book ≡ None)
      (one_key e.key key same) new in (
        omega (arith, longer book e),
        get_last book e ∙ sym (found_more key book e ∙ rw (
          none,
          same,
        ) refl),
      )

  more_by : (book : List (Entry C R)) (e : Entry C R) (key : Key) (is : Bool) (o : Option ℕ) →
      same_key e.key key ≡ is → entry_of e.key book ≡ None → Stands book key o →
      Stands (book ++ e ∷ []) key (cond is (Some (length book)) o)
  more_by book e key true o same new before = stands_last book e key same new
  more_by book e key false o same new before = stands_still book e key o same before

  pub index_more : (p q : BTreeMap Key ℕ) (book later : List (Entry C R)) (e : Entry C R) (k : Key)
      (place : ℕ) → k ≡ e.key → place ≡ length book → later ≡ book ++ e ∷ []
      → entry_of e.key book ≡ None → ((x : Key) → get key_cmp q x ≡ cond (is_at (key_cmp k) x)
      (Some place) (get key_cmp p x)) → IsIndex p book → IsIndex q later
  unfolding IsIndex
  index_more p q book later e k place same at more new put index key =
      let is : get key_cmp q key ≡ cond (same_key e.key key) (Some (length book))
      (get key_cmp p key) = subst (λ k. get key_cmp q key ≡ cond (is_eq (key_cmp k key))
      (Some place) (get key_cmp p key)) same (put key) ∙ rw (key_ties e.key key, at) refl in
      subst (λ l. Stands l key (get key_cmp q key)) (sym more) (subst (Stands (book ++ e ∷ []) key)
      (sym is) (more_by book e key (same_key e.key key) (get key_cmp p key) refl new
      (index key)))
