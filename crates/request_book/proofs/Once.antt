-- The decided deliveries, with one call more.
use Rattle.std.proofs.Common.{◌++◌, ◌≡◌, ◌∙◌, ◌∷◌, List, Option, Some, [], ap, append-nil}
use Rattle.std.proofs.Common.{append_assoc, max, refl, sym, ℕ}
use Rattle.std.specs.Prelude.{Bool, Ok, cond, false, is_some, true}
use Rattle.std.specs.List.{flat_map}
use Rattle.std.proofs.lemmas.Grind.{flat_map-append}
use Rattle.ring_words.specs.declared.request.Delivery.{Delivery}
use Rattle.ring_words.specs.declared.request.Key.{Key}
use Rattle.request_book.specs.declared.entry.Entry.{Entry}
use Rattle.request_book.specs.Call.{Call, Deliver}
use Rattle.request_book.specs.Content.{entry_of, is_known, same_key}
use Rattle.request_book.specs.Once.{decision, firsts, once}
use Rattle.request_book.specs.Run.{kept, last_hour}

module _ {C R : Type 0} where
  known_either : (v : Bool) (a b : Entry C R) (x y : Option (Entry C R)) → is_some x ≡ is_some y →
      is_some (cond v (Some a) x) ≡ is_some (cond v (Some b) y)
  known_either true a b x y h = refl
  known_either false a b x y h = h

  -- whether a key is known does not depend on the hours
  pub known_kept : (key : Key) (book : List (Entry C R)) (hour : ℕ) (es : List (Entry C R)) →
      is_known key (book ++ kept hour es) ≡ is_known key (book ++ es)
  known_kept key [] hour [] = refl
  known_kept key [] hour (e ∷ es) = known_either (same_key e.key key) (record e {
    hour =
        max hour e.hour;
  }) e (entry_of key (kept (max hour e.hour) es)) (entry_of key es)
      (known_kept key [] (max hour e.hour) es)
  known_kept key (b ∷ book) hour es = known_either (same_key b.key key) b b (entry_of key (book ++
      kept hour es)) (entry_of key (book ++ es)) (known_kept key book hour es)

  -- the first of each key, with one more
  pub firsts-old : (seen es : List (Entry C R)) (e : Entry C R) → is_known e.key (seen ++
      firsts seen es) ≡ true → firsts seen (es ++ e ∷ []) ≡ firsts seen es
  firsts-old seen [] e h = let k : is_known e.key seen ≡ true = rw append-nil at h in rw k refl
  firsts-old seen (x ∷ es) e h =
      (elim (is_known x.key seen) as (λ v. is_known e.key (seen ++ cond v (firsts seen es) (x ∷
      firsts (seen ++ x ∷ []) es)) ≡ true → cond v (firsts seen (es ++ e ∷ [])) (x ∷
      firsts (seen ++ x ∷ []) (es ++ e ∷ [])) ≡ cond v (firsts seen es) (x ∷
      firsts (seen ++ x ∷ []) es)) [
        | true ↦ λ k. firsts-old seen es e k
        | false ↦ λ k. ap (λ zs. x ∷ zs) (firsts-old (seen ++ x ∷ []) es e
            (ap (is_known e.key) (append_assoc seen (x ∷ []) (firsts (seen ++ x ∷ []) es)) ∙ k))
      ]) h

  pub firsts-new : (seen es : List (Entry C R)) (e : Entry C R) → is_known e.key (seen ++
      firsts seen es) ≡ false → firsts seen (es ++ e ∷ []) ≡ firsts seen es ++ e ∷ []
  firsts-new seen [] e h = let k : is_known e.key seen ≡ false = rw append-nil at h in rw k refl
  firsts-new seen (x ∷ es) e h =
      (elim (is_known x.key seen) as (λ v. is_known e.key (seen ++ cond v (firsts seen es) (x ∷
      firsts (seen ++ x ∷ []) es)) ≡ false → cond v (firsts seen (es ++ e ∷ [])) (x ∷
      firsts (seen ++ x ∷ []) (es ++ e ∷ [])) ≡ cond v (firsts seen es) (x ∷
      firsts (seen ++ x ∷ []) es) ++ e ∷ []) [
        | true ↦ λ k. firsts-new seen es e k
        | false ↦ λ k. ap (λ zs. x ∷ zs) (firsts-new (seen ++ x ∷ []) es e
            (ap (is_known e.key) (append_assoc seen (x ∷ []) (firsts (seen ++ x ∷ []) es)) ∙ k))
      ]) h

  -- the first of each key of two lists
  pub firsts-append : (seen xs ys : List (Entry C R)) → firsts seen (xs ++ ys) ≡ firsts seen xs ++
      firsts (seen ++ firsts seen xs) ys
  firsts-append seen [] ys = ap (λ s. firsts s ys) (sym (append-nil seen))
  firsts-append seen (x ∷ xs) ys =
      elim (is_known x.key seen) as (λ v. cond v (firsts seen (xs ++ ys)) (x ∷
      firsts (seen ++ x ∷ []) (xs ++ ys)) ≡ cond v (firsts seen xs) (x ∷
      firsts (seen ++ x ∷ []) xs) ++
      firsts (seen ++ cond v (firsts seen xs) (x ∷ firsts (seen ++ x ∷ []) xs)) ys) [
        | true ↦ firsts-append seen xs ys
        | false ↦ ap (λ zs. x ∷ zs) (firsts-append (seen ++ x ∷ []) xs ys ∙ ap (λ s. firsts (seen ++
            x ∷ []) xs ++ firsts s ys) (append_assoc seen (x ∷ []) (firsts (seen ++ x ∷ []) xs)))
      ]

  -- the entries at their hours, with one more
  pub kept-snoc : (hour : ℕ) (es : List (Entry C R)) (e : Entry C R) →
      kept hour (es ++ e ∷ []) ≡ kept hour es ++
      record e { hour = max (last_hour hour (kept hour es)) e.hour } ∷ []
  kept-snoc hour [] e = refl
  kept-snoc hour (x ∷ es) e = ap (λ zs. record x { hour = max hour x.hour } ∷
      zs) (kept-snoc (max hour x.hour) es e)

  pub kept-append : (hour : ℕ) (xs ys : List (Entry C R)) → kept hour (xs ++ ys) ≡ kept hour xs ++
      kept (last_hour hour (kept hour xs)) ys
  kept-append hour [] ys = refl
  kept-append hour (x ∷ xs) ys = ap (λ zs. record x { hour = max hour x.hour } ∷
      zs) (kept-append (max hour x.hour) xs ys)

  pub last_hour-snoc : (hour : ℕ) (es : List (Entry C R)) (e : Entry C R) →
      last_hour hour (es ++ e ∷ []) ≡ e.hour
  last_hour-snoc hour [] e = refl
  last_hour-snoc hour (x ∷ es) e = last_hour-snoc x.hour es e

  -- a call that decides nothing is none of `once`, nor is a delivery whose key is known
  pub once-none : (book : List (Entry C R)) (calls : List (Call C R)) (call : Call C R) →
      decision call ≡ [] → once book (calls ++ call ∷ []) ≡ once book calls
  once-none book calls call h = ap (firsts book) (flat_map-append decision calls (call ∷ []) ∙ ap
      (λ es. flat_map decision calls ++ (es ++ [])) h ∙ append-nil _)

  pub once-old : (book : List (Entry C R)) (calls : List (Call C R)) (d : Delivery C) (reply : R) →
      is_known d.key (book ++ once book calls) ≡ true → once book (calls ++ Deliver d (Ok reply) ∷
      []) ≡ once book calls
  once-old book calls d reply h =
      ap (firsts book) (flat_map-append decision calls (Deliver d (Ok reply) ∷ [])) ∙ firsts-old
      book (flat_map decision calls) (record {
        key = d.key;
        hour = d.hour;
        command = d.command;
        reply = reply;
      }) h

  pub once-new : (book : List (Entry C R)) (calls : List (Call C R)) (d : Delivery C) (reply : R) →
      is_known d.key (book ++ once book calls) ≡ false → once book (calls ++ Deliver d (Ok reply) ∷
      []) ≡ once book calls ++ record {
        key = d.key;
        hour = d.hour;
        command = d.command;
        reply =
            reply;
      } ∷ []
  once-new book calls d reply h =
      ap (firsts book) (flat_map-append decision calls (Deliver d (Ok reply) ∷ [])) ∙ firsts-new
      book (flat_map decision calls) (record {
        key = d.key;
        hour = d.hour;
        command = d.command;
        reply = reply;
      }) h
