-- Which keys are beyond those that callers used.
use Rattle.std.proofs.Common.{◌++◌, ◌+◌, ◌≡◌, ◌≤◌, ◌∙◌, ◌∷◌, Bool, List, None, Option, Some, [], ap}
use Rattle.std.proofs.Common.{arith, cond, false, refl, subst, sym, true, ℕ}
use Rattle.std.specs.Prelude.{max, nat_eq}
use Rattle.std.specs.Cmp.{unsigned_Decides}
use Rattle.std.specs.BTreeMap.{BTreeMap, get, is_at}
use Rattle.std.specs.Cmp.Lexicographic.{nat_list_eq_equiv, pointwise, same_text, slice_cmp}
use Rattle.std.specs.Cmp.Lexicographic.{texts_ties}
use Rattle.std.specs.Map.{lookup}
use Rattle.std.specs.Option.{option_or}
use Rattle.std.specs.Ordering.{is_eq, nat_cmp}
use Rattle.std.proofs.lemmas.Bool.{and_parts}
use Rattle.std.proofs.lemmas.List.Folds.{find-append}
use Rattle.ring_words.specs.declared.request.Key.{Key}
use Rattle.request_book.specs.Content.{same_key}
use Rattle.store_rows.specs.Callers.{Bounds, UsedNumbers, behind_greatest, next_number, next_with}
use Rattle.store_rows.specs.Stands.{DecidedRequest}

-- the callers of a key that was noted used no less than before
used_more : (is : Bool) (n m : ℕ) → m ≤ cond is (max m n) m
used_more true n m = omega arith
used_more false n m = omega arith

-- and its own used this number
used_this : (is : Bool) (n m : ℕ) → is ≡ true → n ≤ cond is (max m n) m
used_this true n m e = omega arith
used_this false n m e = cc

-- texts are compared in either order
texts_turn : (a b : List ℕ) → is_eq (slice_cmp nat_cmp b a) ≡ pointwise nat_eq a b
texts_turn a b = sym (texts_ties b a) ∙ nat_list_eq_equiv.symm b a

-- an entry of the key that was noted is not found by a key that is beyond
other_by : (same : Bool) (e : DecidedRequest) (key : Key) (next : ℕ) → same_key e.key key ≡ same
    → cond (pointwise nat_eq e.key.caller key.caller) (max next (e.key.number + 1)) next
    ≤ key.number → cond same (Some e) None ≡ None
other_by false e key next is beyond = refl
other_by true e key next is beyond =
    let parts = and_parts _ _ is in
    let at = used_this (pointwise nat_eq e.key.caller key.caller) (e.key.number + 1) next parts.0 in
    let number : e.key.number ≡ key.number = (unsigned_Decides e.key.number key.number).0 parts.1 in
    absurd (omega (arith, at, beyond, number))

-- callers bound a book with one more request once its key is noted
pub bounds_more : (old new : UsedNumbers) (book : List DecidedRequest) (e : DecidedRequest)
    → ((caller : List ℕ) → next_number new caller ≡ next_with e.key old caller) → Bounds old book
    → Bounds new (book ++ e ∷ [])
bounds_more old new book e noted bounds key beyond =
    let next = next_number old key.caller in
    let later : next_with e.key old key.caller ≤ key.number = omega
    (arith, beyond, noted key.caller) in
    let more = used_more (pointwise nat_eq e.key.caller key.caller) (e.key.number + 1) next in
    let none = bounds key (omega (arith, later, more)) in
    find-append (λ (x : DecidedRequest). same_key x.key key) book (e ∷ []) ∙ ap
    (λ o. option_or o (cond (same_key e.key key) (Some e) None)) none ∙ other_by
    (same_key e.key key) e key next refl later

-- no callers bound a book without a request
pub bounds_none : (used : UsedNumbers) → Bounds used []
bounds_none used key beyond = refl

-- callers whose key was noted bound the same book
pub bounds_still : (old new : UsedNumbers) (book : List DecidedRequest) (noted : Key)
    → ((caller : List ℕ) → next_number new caller ≡ next_with noted old caller) → Bounds old book
    → Bounds new book
bounds_still old new book noted is bounds key beyond =
    let next = next_number old key.caller in
    let more = used_more (pointwise nat_eq noted.caller key.caller) (noted.number + 1) next in
    bounds key (omega (arith, beyond, is key.caller, more))

-- some callers bound each book
abbrev with_first : UsedNumbers → Key → UsedNumbers
with_first used key = (key.caller, max (next_number used key.caller) key.number) ∷ used

next_first : (used : UsedNumbers) (k : Key) (caller : List ℕ)
    → next_with k used caller ≤ next_number (with_first used k) caller
next_first used k caller =
    subst (λ is. next_with k used caller ≤ behind_greatest (cond is (Some (max
    (next_number used k.caller) k.number)) (lookup (is_at (slice_cmp nat_cmp caller)) used)))
    (sym (texts_turn k.caller caller)) (by_same (pointwise nat_eq k.caller caller) refl)
  where
    by_same : (same : Bool) → pointwise nat_eq k.caller caller ≡ same
        → cond same (max (next_number used caller) (k.number + 1)) (next_number used caller)
        ≤ behind_greatest (cond same (Some (max (next_number used k.caller) k.number))
        (lookup (is_at (slice_cmp nat_cmp caller)) used))
    by_same true is =
        let at : next_number used k.caller ≡ next_number used caller = ap (next_number used)
        (same_text k.caller caller (sym is)) in
        omega (arith, at)
    by_same false is = omega arith

bounds_first : (used : UsedNumbers) (book : List DecidedRequest) (e : DecidedRequest)
    → Bounds used book → Bounds (with_first used e.key) (e ∷ book)
bounds_first used book e bounds key beyond =
    let next = next_number used key.caller in
    let first = next_first used e.key key.caller in
    let later : next_with e.key used key.caller ≤ key.number = omega (arith, beyond, first) in
    let more = used_more (pointwise nat_eq e.key.caller key.caller) (e.key.number + 1) next in
    ap (λ o. cond (same_key e.key key) (Some e) o) (bounds key (omega (arith, later, more)))
    ∙ other_by (same_key e.key key) e key next refl later

pub some_bounds : (book : List DecidedRequest) → (used : UsedNumbers) × Bounds used book
some_bounds [] = ([], bounds_none [])
some_bounds (e ∷ book) =
    let rest = some_bounds book in
    (with_first rest.0 e.key, bounds_first rest.0 book e rest.1)

-- a map that has a greater number at a caller
pub next_put : (m n : BTreeMap (List ℕ) ℕ) (key : Key) (w : ℕ)
    → ((q : List ℕ) → get (slice_cmp nat_cmp) n q ≡ cond (is_at (slice_cmp nat_cmp key.caller) q)
    (Some w) (get (slice_cmp nat_cmp) m q))
    → w + 1 ≡ max (next_number m.entries key.caller) (key.number + 1) → (caller : List ℕ)
    → next_number n.entries caller ≡ next_with key m.entries caller
next_put m n key w put more caller =
    ap behind_greatest (put caller ∙ ap (λ b. cond b (Some w) (get (slice_cmp nat_cmp) m caller))
    (sym (texts_ties key.caller caller))) ∙ by_same (pointwise nat_eq key.caller caller) refl
  where
    by_same : (same : Bool) → pointwise nat_eq key.caller caller ≡ same
        → behind_greatest (cond same (Some w) (get (slice_cmp nat_cmp) m caller))
        ≡ cond same (max (next_number m.entries caller) (key.number + 1))
        (next_number m.entries caller)
    by_same true is = more ∙ ap (λ c. max (next_number m.entries c) (key.number + 1))
        (same_text key.caller caller (sym is))
    by_same false is = refl

-- one behind the greater of two numbers
pub greater_next : (o : Option ℕ) (n w : ℕ) → (o ≡ None → w ≡ n) → ((g : ℕ) → o ≡ Some g
    → w ≡ max n g) → w + 1 ≡ max (behind_greatest o) (n + 1)
greater_next None n w none some = let is = none refl in omega (arith, is)
greater_next (Some g) n w none some = let is = some g refl in omega (arith, is)

-- what was found is one number
pub found_number : {o : Option ℕ} {n g : ℕ} → Some n ≡ o → o ≡ Some g → n ≡ g
found_number found is = let both = found ∙ is in cc

pub never : {o : Option ℕ} {n : ℕ} → Some n ≡ o → o ≡ None → ⊥
never found is = let both = found ∙ is in cc
