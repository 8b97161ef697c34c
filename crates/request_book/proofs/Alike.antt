-- One key has one command and one reply.
use Rattle.std.proofs.Common.{◌++◌, ◌<◌, ◌≡◌, ◌∙◌, ◌∷◌, List, None, Option, Some, [], ap}
use Rattle.std.proofs.Common.{append_assoc, length, max, refl, subst, sym, ℕ}
use Rattle.std.specs.Prelude.{◌≢◌, Bool, Err, IsSomeAnd, MatchOption, Ok, Result, cond, false, is_some}
use Rattle.std.specs.Prelude.{true}
use Rattle.std.specs.Cmp.Lexicographic.{nat_list_eq_equiv}
use Rattle.std.specs.List.{flat_map}
use Rattle.std.specs.Option.{option_or, option_to_list}
use Rattle.std.proofs.lemmas.Cmp.{nat_eq_equiv}
use Rattle.std.proofs.lemmas.Grind.{flat_map-append}
use Rattle.std.proofs.lemmas.List.Folds.{find-append}
use Rattle.ring_words.specs.declared.request.Delivery.{Delivery}
use Rattle.ring_words.specs.declared.request.Key.{Key}
use Rattle.request_book.specs.declared.entry.Entry.{Entry}
use Rattle.request_book.specs.Call.{Call, Deliver}
use Rattle.request_book.specs.Content.{Content, entry_of, is_known, same_key}
use Rattle.request_book.specs.Once.{decision, firsts, once}
use Rattle.request_book.specs.Run.{AnswersAlike, MayRepeat, MayReply, RepeatsAreKept, Run, kept}
use Rattle.request_book.specs.Run.{last_hour}
use Rattle.request_book.specs.declared.book.Fault.{Fault}
use Rattle.request_book.specs.declared.book.Fault.TheVariants.{BookFull, Closed, NoMemory}
use Rattle.request_book.specs.declared.book.Fault.TheVariants.{NumberReused, StoreFault}
use Rattle.request_book.proofs.Once.{firsts-append, kept-append, kept-snoc, known_kept, once-new}

same_refl : (k : Key) → same_key k k ≡ true
same_refl k = rw (nat_list_eq_equiv.refl k.caller, nat_eq_equiv.refl k.number) refl

module _ {C R : Type 0} where
  -- an entry stays the key's entry
  stays : (book : List (Entry C R)) (hour : ℕ) (calls more : List (Call C R)) (key : Key)
      (e : Entry C R) → entry_of key (book ++ kept hour (once book calls)) ≡ Some e →
      entry_of key (book ++ kept hour (once book (calls ++ more))) ≡ Some e
  stays book hour calls more key e h =
      let es = flat_map decision calls in
      let fs = flat_map decision more in
      let o : once book (calls ++ more) ≡ once book calls ++ firsts (book ++ once book calls) fs =
      ap (firsts book) (flat_map-append decision calls more) ∙ firsts-append book es fs in
      let k : book ++ kept hour (once book (calls ++ more)) ≡ (book ++ kept hour (once book calls))
      ++ kept (last_hour hour (kept hour (once book calls))) (firsts (book ++ once book calls)
      fs) = ap (λ xs. book ++ kept hour xs) o ∙ ap (λ xs. book ++
      xs) (kept-append hour (once book calls) _) ∙ sym
      (append_assoc book (kept hour (once book calls)) _) in
      ap (entry_of key) k ∙ find-append (λ e. same_key e.key key) (book ++
      kept hour (once book calls)) _ ∙ ap
      (λ o. option_or o (entry_of key (kept (last_hour hour (kept hour (once book calls)))
      (firsts (book ++ once book calls) fs)))) h

  -- after a reply the key's entry has that command and that reply
  after_reply : (limit : ℕ) (book : List (Entry C R)) (hour : ℕ) (calls : List (Call C R))
      (d : Delivery C) (p : R) (o : Option (Entry C R)) → entry_of d.key (book ++
      kept hour (once book calls)) ≡ o → MatchOption o (length (book ++ kept hour (once book calls))
      < limit) (λ e. (e.command ≡ d.command) × (p ≡ e.reply))
      → (e : Entry C R) × (entry_of d.key (book ++ kept hour (once book (calls ++ Deliver d (Ok p) ∷
      []))) ≡ Some e) × (e.command ≡ d.command) × (p ≡ e.reply)
  after_reply limit book hour calls d p (Some e) i m =
      (e, stays book hour calls (Deliver d (Ok p) ∷ []) d.key e i, m.0, m.1)
  after_reply limit book hour calls d p None i m =
      let n : is_known d.key (book ++ once book calls) ≡ false =
      sym (known_kept d.key book hour (once book calls)) ∙ ap is_some i in
      let x : Entry C R = record { key = d.key; hour = d.hour; command = d.command; reply = p } in
      let y : Entry C R = record x {
        hour = max (last_hour hour (kept hour (once book calls)))
            d.hour;
      } in
      let k : book ++ kept hour (once book (calls ++ Deliver d (Ok p) ∷ [])) ≡ (book ++
      kept hour (once book calls)) ++ y ∷ [] = ap (λ xs. book ++ kept hour xs)
      (once-new book calls d p n) ∙ ap (λ xs. book ++ xs) (kept-snoc hour (once book calls) x) ∙
      sym (append_assoc book (kept hour (once book calls)) (y ∷ [])) in (
        y,
        ap (entry_of d.key) k ∙ find-append (λ e. same_key e.key d.key) (book ++
            kept hour (once book calls)) (y ∷ []) ∙ ap (λ o. option_or o (entry_of d.key (y ∷ [])))
            i
            ∙ ap (λ v. cond v (Some y) None) (same_refl d.key),
        refl,
        refl,
      )

  -- where two deliveries of a run have one key and a reply each, they have one command and one
  -- reply
  pub alike : {S : Type 0} (step : S → ℕ → C → R → S → Type 0) (limit : ℕ) (closed : Bool)
      (old : Content S C R) (calls : List (Call C R)) (new : Content S C R) →
      Run step limit closed old calls new → AnswersAlike calls
  alike step limit closed old calls new r before d p between b q after e k =
      let one = r.answers before (Deliver d (Ok p)) (between ++ Deliver b (Ok q) ∷ after) e in
      let had = after_reply limit old.book old.hour before d p (entry_of d.key (old.book ++
      kept old.hour (once old.book before))) refl one.1 in
      let two = r.answers (before ++ Deliver d (Ok p) ∷ between) (Deliver b (Ok q)) after
      (e ∙ sym (append_assoc before (Deliver d (Ok p) ∷ between) (Deliver b (Ok q) ∷ after))) in
      let same : before ++ Deliver d (Ok p) ∷ between ≡ (before ++ Deliver d (Ok p) ∷ []) ++
      between = sym (append_assoc before (Deliver d (Ok p) ∷ []) between) in
      let still : entry_of b.key (old.book ++
      kept old.hour (once old.book (before ++ Deliver d (Ok p) ∷ between))) ≡ Some had.0 =
      ap (λ key. entry_of key (old.book ++
      kept old.hour (once old.book (before ++ Deliver d (Ok p) ∷ between)))) (sym k) ∙ ap
      (λ xs. entry_of d.key (old.book ++ kept old.hour (once old.book xs))) same ∙ stays
      old.book old.hour (before ++ Deliver d (Ok p) ∷ []) between d.key had.0 had.1 in
      let m = subst (λ o. MatchOption o (length (old.book ++
      kept old.hour (once old.book (before ++ Deliver d (Ok p) ∷ between))) < limit)
      (λ x. (x.command ≡ b.command) × (q ≡ x.reply))) still two.1 in
      (sym had.2 ∙ m.0, had.3 ∙ sym m.1)

  -- a delivery that comes again, where this is what it may be answered
  repeated : (limit : ℕ) (closed : Bool) (book : List (Entry C R)) (b : Delivery C) (p : R)
      (had : Entry C R) (answer : Result R Fault) → entry_of b.key book ≡ Some had
      → had.command ≡ b.command → p ≡ had.reply → MayReply limit closed book b answer
      → MayRepeat p answer
  repeated limit closed book b p had (Ok q) is command reply may =
      let m = subst (λ o. MatchOption o (length book < limit)
      (λ x. (x.command ≡ b.command) × (q ≡ x.reply))) is may.1 in m.1 ∙ sym reply
  repeated limit closed book b p had (Err NumberReused) is command reply may =
      subst (λ o. IsSomeAnd o (λ x. x.command ≢ b.command)) is may.1 command
  repeated limit closed book b p had (Err BookFull) is command reply may =
      let none : Some had ≡ None = sym is ∙ may.1 in cc
  repeated limit closed book b p had (Err NoMemory) is command reply may = tt
  repeated limit closed book b p had (Err StoreFault) is command reply may = tt
  repeated limit closed book b p had (Err Closed) is command reply may = tt

  -- where a delivery of a run has a reply, one of its key and command that comes later gets that too
  pub repeats : {S : Type 0} (step : S → ℕ → C → R → S → Type 0) (limit : ℕ) (closed : Bool)
      (old : Content S C R) (calls : List (Call C R)) (new : Content S C R) →
      Run step limit closed old calls new → RepeatsAreKept calls
  repeats step limit closed old calls new r before d p between b answer after e k same_command =
      let one = r.answers before (Deliver d (Ok p)) (between ++ Deliver b answer ∷ after) e in
      let had = after_reply limit old.book old.hour before d p (entry_of d.key (old.book ++
      kept old.hour (once old.book before))) refl one.1 in
      let two = r.answers (before ++ Deliver d (Ok p) ∷ between) (Deliver b answer) after
      (e ∙ sym (append_assoc before (Deliver d (Ok p) ∷ between) (Deliver b answer ∷ after))) in
      let same : before ++ Deliver d (Ok p) ∷ between ≡ (before ++ Deliver d (Ok p) ∷ []) ++
      between = sym (append_assoc before (Deliver d (Ok p) ∷ []) between) in
      let still : entry_of b.key (old.book ++
      kept old.hour (once old.book (before ++ Deliver d (Ok p) ∷ between))) ≡ Some had.0 =
      ap (λ key. entry_of key (old.book ++
      kept old.hour (once old.book (before ++ Deliver d (Ok p) ∷ between)))) (sym k) ∙ ap
      (λ xs. entry_of d.key (old.book ++ kept old.hour (once old.book xs))) same ∙ stays
      old.book old.hour (before ++ Deliver d (Ok p) ∷ []) between d.key had.0 had.1 in
      repeated limit _ (old.book ++
      kept old.hour (once old.book (before ++ Deliver d (Ok p) ∷ between))) b p had.0 answer still
      (had.2 ∙ same_command) had.3 two

  -- a key's entry stays it as the book grows
  pub kept_on : (book more : List (Entry C R)) (key : Key) (e : Entry C R) →
      entry_of key book ≡ Some e → entry_of key (book ++ more) ≡ Some e
  kept_on book more key e h = find-append (λ x. same_key x.key key) book more ∙ ap
      (λ o. option_or o (entry_of key more)) h

  -- every reply of a run is the one that the book keeps under its key when the run has ended
  pub kept_reply : {S : Type 0} (step : S → ℕ → C → R → S → Type 0) (limit : ℕ) (closed : Bool)
      (old : Content S C R) (calls : List (Call C R)) (new : Content S C R) →
      Run step limit closed old calls new → (before : List (Call C R)) (d : Delivery C) (p : R)
      (after : List (Call C R)) → calls ≡ before ++ Deliver d (Ok p) ∷ after → (e : Entry C R)
      × (entry_of d.key new.book ≡ Some e) × (e.command ≡ d.command) × (p ≡ e.reply)
  kept_reply step limit closed old calls new r before d p after is =
      let one = r.answers before (Deliver d (Ok p)) after is in
      let had = after_reply limit old.book old.hour before d p (entry_of d.key (old.book ++
      kept old.hour (once old.book before))) refl one.1 in
      let all : (before ++ Deliver d (Ok p) ∷ []) ++ after ≡ calls =
      append_assoc before (Deliver d (Ok p) ∷ []) after ∙ sym is in
      let still : entry_of d.key (old.book ++ kept old.hour (once old.book calls)) ≡ Some had.0 =
      ap (λ xs. entry_of d.key (old.book ++ kept old.hour (once old.book xs))) (sym all) ∙ stays
      old.book old.hour (before ++ Deliver d (Ok p) ∷ []) after d.key had.0 had.1 in
      let es = once old.book calls in
      let fs = kept (last_hour old.hour (kept old.hour es)) (option_to_list r.doubt) in
      let book : new.book ≡ (old.book ++ kept old.hour es) ++ fs =
      r.leads.book ∙ ap (λ xs. old.book ++ xs) (kept-append old.hour es (option_to_list r.doubt))
      ∙ sym (append_assoc old.book (kept old.hour es) fs) in (
        had.0,
        ap (entry_of d.key) book ∙ kept_on (old.book ++ kept old.hour es) fs d.key had.0 still,
        had.2,
        had.3,
      )
