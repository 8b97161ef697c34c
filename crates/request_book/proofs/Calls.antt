-- The faults of a list of calls, with one call more.
use Rattle.std.proofs.Common.{◌++◌, ◌<◌, ◌≡◌, ◌∙◌, ◌∷◌, ◌⊎◌, List, None, Option, Some, [], ap}
use Rattle.std.proofs.Common.{arith, inl, inr, length, refl, subst, sym, ℕ}
use Rattle.std.specs.Prelude.{◌||◌, Bool, Err, MatchOption, Ok, Result, cond, false, is_some, map}
use Rattle.std.specs.Prelude.{nat_lt, true}
use Rattle.std.specs.List.{zip}
use Rattle.std.specs.Option.{option_or}
use Rattle.std.proofs.lemmas.Bool.Decides.{nat_tests}
use Rattle.std.proofs.lemmas.List.{map-append}
use Rattle.std.proofs.lemmas.List.Folds.{find-append}
use Rattle.ring_words.specs.declared.request.Delivery.{Delivery}
use Rattle.request_book.specs.declared.book.Fault.{Fault}
use Rattle.request_book.specs.declared.book.Fault.TheVariants.{BookFull, Closed, NoMemory}
use Rattle.request_book.specs.declared.book.Fault.TheVariants.{NumberReused, StoreFault}
use Rattle.request_book.specs.Call.{Call, ClosesAfterFault, Deliver, FaultsTold, calls_of, failed}
use Rattle.request_book.specs.Call.{finds_closed, is_closed_fault, meets_fault}

-- an element of a list with one more is the last one or stood before
pub split_last : {A : Type 0} (xs : List A) (y : A) (before : List A) (s : A) (after : List A) →
    xs ++ y ∷ [] ≡ before ++ s ∷ after → ((before ≡ xs) × (s ≡ y)) ⊎
    ((rest : List A) × (xs ≡ before ++ s ∷ rest))
split_last [] y [] s after e = inl (refl, cc)
split_last [] y (b ∷ []) s after e = cc
split_last [] y (b ∷ (c ∷ before)) s after e = cc
split_last (x ∷ xs) y [] s after e = inr (xs, cc)
split_last (x ∷ xs) y (b ∷ before) s after e =
    let tail : xs ++ y ∷ [] ≡ before ++ s ∷ after = cc in
    let head : x ≡ b = cc in
    elim (split_last xs y before s after tail) [
      | inl p ↦ inl (rw (sym head, sym p.0) refl, p.1)
      | inr q ↦ inr (q.0, let e : xs ≡ before ++ s ∷ q.0 = q.1 in cc)
    ]

pub no_member : {A B : Type 0} (before : List A) (s : A) (after : List A) → [] ≡ before ++ s ∷
    after → B
no_member [] s after e = cc
no_member (x ∷ before) s after e = cc

-- the pairs of two lists, each with one more
zip-snoc : {A B : Type 0} (xs : List A) (ys : List B) (x : A) (y : B) → length xs ≡ length ys →
    zip (xs ++ x ∷ []) (ys ++ y ∷ []) ≡ zip xs ys ++ (x, y) ∷ []
zip-snoc [] [] x y e = refl
zip-snoc [] (b ∷ ys) x y e = cc
zip-snoc (a ∷ xs) [] x y e = cc
zip-snoc (a ∷ xs) (b ∷ ys) x y e = ap (λ zs. (a, b) ∷ zs) (zip-snoc xs ys x y (cc))

pub or_false : (b : Bool) → b ≡ (b || false)
or_false true = refl
or_false false = refl

or_true : (b : Bool) → (b || true) ≡ true
or_true true = refl
or_true false = refl

pub or_right : (a b : Bool) → (a || b) ≡ false → b ≡ false
or_right true b h = cc
or_right false b h = h

pub above_zero : (m n : ℕ) → m < n → nat_lt 0 n ≡ true
above_zero m n h = grind (arith, nat_tests)

pub not_above : (n : ℕ) → (0 < n → ⊥) → nat_lt 0 n ≡ false
not_above n h = grind (arith, nat_tests)

-- the one answer that says that the book is closed
pub is_closed_answer : {A : Type 0} (a : Result A Fault) → is_closed_fault a ≡ true → a ≡ Err Closed
is_closed_answer (Err Closed) h = refl
is_closed_answer (Err StoreFault) h = cc
is_closed_answer (Err BookFull) h = cc
is_closed_answer (Err NoMemory) h = cc
is_closed_answer (Err NumberReused) h = cc
is_closed_answer (Ok reply) h = cc

module _ {C R : Type 0} where
  -- the calls of deliveries, with one more
  pub calls_of-snoc : (ds : List (Delivery C)) (sofar later : List (Result R Fault))
      (d : Delivery C) (a : Result R Fault) → length sofar ≡ length ds → later ≡ sofar ++ a ∷ [] →
      calls_of (ds ++ d ∷ []) later ≡ calls_of ds sofar ++ Deliver d a ∷ []
  calls_of-snoc ds sofar later d a n more =
      ap (calls_of (ds ++ d ∷ [])) more ∙ ap (map (λ (s : Delivery C × Result R Fault). Deliver s.0
      s.1)) (zip-snoc ds sofar d a (sym n)) ∙ map-append (λ (s : Delivery C × Result R Fault).
      Deliver s.0 s.1) (zip ds sofar) ((d, a) ∷ [])

  -- the first fault, with one call more
  pub failed-ok : (calls : List (Call C R)) (call : Call C R) → meets_fault call ≡ false →
      failed (calls ++ call ∷ []) ≡ failed calls
  failed-ok [] call h = rw h refl
  failed-ok (x ∷ calls) call h = ap (cond (meets_fault x) (Some x)) (failed-ok calls call h)

  pub failed-new : (calls : List (Call C R)) (call : Call C R) → is_some (failed calls) ≡ false →
      meets_fault call ≡ true → failed (calls ++ call ∷ []) ≡ Some call
  failed-new [] call h f = rw f refl
  failed-new (x ∷ calls) call h f =
      (elim (meets_fault x) as (λ v. is_some (cond v (Some x) (failed calls)) ≡ false →
      cond v (Some x) (failed (calls ++ call ∷ [])) ≡ Some call) [
        | true ↦ λ k. cc
        | false ↦ λ k. failed-new calls call k f
      ]) h

  -- the book is closed where its count of faults is above 0
  told_by : (old new : ℕ) (f : Option (Call C R)) → MatchOption f (new ≡ old) (λ _. old < new) →
      nat_lt 0 new ≡ (nat_lt 0 old || is_some f)
  told_by old new None h = ap (nat_lt 0) h ∙ or_false (nat_lt 0 old)
  told_by old new (Some call) h = above_zero old new h ∙ sym (or_true (nat_lt 0 old))

  pub closed_by : (old new : ℕ) (calls : List (Call C R)) → FaultsTold old new calls →
      nat_lt 0 new ≡ (nat_lt 0 old || is_some (failed calls))
  closed_by old new calls h = told_by old new (failed calls) h

  -- the count of faults, with one call more
  faults_either : (old mid new : ℕ) (f g : Option (Call C R)) →
      MatchOption f (mid ≡ old) (λ _. old < mid) → MatchOption g (new ≡ mid) (λ _. mid < new) →
      MatchOption (option_or f g) (new ≡ old) (λ _. old < new)
  faults_either old mid new None None h k = k ∙ h
  faults_either old mid new None (Some y) h k = omega arith
  faults_either old mid new (Some x) None h k = omega arith
  faults_either old mid new (Some x) (Some y) h k = omega arith

  faults-snoc : (old mid new : ℕ) (calls : List (Call C R)) (call : Call C R) →
      FaultsTold old mid calls → FaultsTold mid new (call ∷ []) → FaultsTold old new (calls ++
      call ∷ [])
  faults-snoc old mid new calls call h k = rw (find-append meets_fault calls (call ∷ []))
      (faults_either old mid new (failed calls) (failed (call ∷ [])) h k)

  -- the closed answers, with one call more
  pub closes-none : (closed : Bool) → ClosesAfterFault {C = C} {R = R} closed []
  closes-none closed before call after e = no_member before call after e

  closes-snoc : (closed : Bool) (calls : List (Call C R)) (call : Call C R) →
      ClosesAfterFault closed calls → finds_closed call ≡ (closed || is_some (failed calls)) →
      ClosesAfterFault closed (calls ++ call ∷ [])
  closes-snoc closed calls call all this before s after e =
      elim (split_last calls call before s after e) [
        | inl p ↦ rw (p.0, p.1) this
        | inr q ↦ all before s q.0 q.1
      ]

  -- a count of 0 after a call was 0 before it
  zero_before : (old new : ℕ) (f : Option (Call C R)) → MatchOption f (new ≡ old) (λ _. old < new) →
      new ≡ 0 → old ≡ 0
  zero_before old new None h z = sym h ∙ z
  zero_before old new (Some call) h z = omega arith

  pub no_rise : (old new : ℕ) (call : Call C R) → FaultsTold old new (call ∷ []) → new ≡ 0 → old ≡ 0
  no_rise old new call h z = zero_before old new (failed (call ∷ [])) h z

  -- the faults and the closed answers, as a loop goes on
  pub faults_more : (old mid new : ℕ) (ds : List (Delivery C)) (sofar later : List (Result R Fault))
      (d : Delivery C) (a : Result R Fault) → length sofar ≡ length ds → later ≡ sofar ++ a ∷ [] →
      FaultsTold old mid (calls_of ds sofar) → FaultsTold {C = C} mid new (Deliver d a ∷ []) →
      FaultsTold old new (calls_of (ds ++ d ∷ []) later)
  faults_more old mid new ds sofar later d a n more h k = subst (λ xs. FaultsTold old new xs)
      (sym (calls_of-snoc ds sofar later d a n more)) (faults-snoc old mid new (calls_of ds sofar)
      (Deliver d a) h k)

  pub closes_more : (old mid : ℕ) (ds : List (Delivery C)) (sofar later : List (Result R Fault))
      (d : Delivery C) (a : Result R Fault) → length sofar ≡ length ds → later ≡ sofar ++ a ∷ [] →
      FaultsTold old mid (calls_of ds sofar) → ClosesAfterFault (nat_lt 0 old) (calls_of ds sofar) →
      is_closed_fault a ≡ nat_lt 0 mid → ClosesAfterFault (nat_lt 0 old) (calls_of (ds ++ d ∷
      []) later)
  closes_more old mid ds sofar later d a n more t h k =
      subst (λ xs. ClosesAfterFault (nat_lt 0 old) xs)
      (sym (calls_of-snoc ds sofar later d a n more)) (closes-snoc (nat_lt 0 old)
      (calls_of ds sofar) (Deliver d a) h (k ∙ closed_by old mid (calls_of ds sofar) t))
