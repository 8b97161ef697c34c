-- A run goes on by one call.
use Rattle.std.proofs.Common.{◌++◌, ◌<◌, ◌≡◌, ◌∙◌, ◌∷◌, List, MatchOption, None, Option, Some, []}
use Rattle.std.proofs.Common.{ap, append-nil, append_assoc, arith, inl, inr, length, max, refl, suc}
use Rattle.std.proofs.Common.{subst, sym, zero, ℕ}
use Rattle.std.specs.Prelude.{◌||◌, Bool, Err, IsSomeAnd, Ok, Result, false, is_some, nat_lt, true}
use Rattle.std.specs.Option.{option_to_list}
use Rattle.ring_words.specs.declared.request.Delivery.{Delivery}
use Rattle.request_book.specs.declared.book.Fault.{Fault}
use Rattle.request_book.specs.declared.book.Fault.TheVariants.{BookFull, Closed, NoMemory}
use Rattle.request_book.specs.declared.book.Fault.TheVariants.{NumberReused, StoreFault}
use Rattle.request_book.specs.declared.entry.Entry.{Entry}
use Rattle.request_book.specs.Call.{Call, Deliver, Load, calls_of, failed, is_closed_fault}
use Rattle.request_book.specs.Call.{meets_fault}
use Rattle.request_book.specs.Called.{Acts, Called}
use Rattle.request_book.specs.Content.{Content, entry_of, is_known}
use Rattle.request_book.specs.Keeper.{CrashLeaves, LeavesOnly}
use Rattle.request_book.specs.Once.{decision, once}
use Rattle.request_book.specs.Run.{Chain, IsInDoubt, Leads, MayAnswer, Run, kept, last_hour}
use Rattle.request_book.proofs.Calls.{above_zero, calls_of-snoc, failed-new, failed-ok}
use Rattle.request_book.proofs.Calls.{is_closed_answer, no_member, or_false, or_right, split_last}
use Rattle.request_book.proofs.Once.{kept-snoc, known_kept, last_hour-snoc, once-new, once-none}
use Rattle.request_book.proofs.Once.{once-old}

-- what a crash leaves has each property that follows
pub leaves_map : {S C R : Type 0} (may : Option (Content S C R) → Type 0) (P Q : Content S C R →
    Type 0) → ((left : Content S C R) → P left → Q left) → CrashLeaves may P → CrashLeaves may Q
leaves_map {S} {C} {R} may P Q f h = record {
  something = h.something;
  each =
      λ left i. go left (h.each left i);
}
  where
    go : (left : Option (Content S C R)) → IsSomeAnd left P → IsSomeAnd left Q
    go None i = i
    go (Some left) i = f left i

module _ {S C R : Type 0} (step : S → ℕ → C → R → S → Type 0) where
  -- a chain with one more step
  chain-snoc : (old : S) (es : List (Entry C R)) (mid : S) (e : Entry C R) (new : S) →
      Chain step old es mid → step mid e.hour e.command e.reply new → Chain step old (es ++ e ∷
      []) new
  chain-snoc old [] mid e new c h = (
    new,
    subst (λ s. step s e.hour e.command e.reply new) c h,
    refl,
  )
  chain-snoc old (x ∷ es) mid e new c h = (c.0, c.1, chain-snoc c.0 es mid e new c.2 h)

  -- what one more delivery leads to
  leads-snoc : (old : Content S C R) (es : List (Entry C R)) (mid : Content S C R) (d : Delivery C)
      (reply : R) (new : Content S C R) → Leads step old es mid → Acts step mid d reply new →
      Leads step old (es ++ record {
        key = d.key;
        hour = d.hour;
        command = d.command;
        reply =
            reply;
      } ∷ []) new
  leads-snoc old es mid d reply new l a =
      let e : Entry C R = record { key = d.key; hour = d.hour; command = d.command; reply = reply }
      in
      let k : kept old.hour (es ++ e ∷ []) ≡ kept old.hour es ++
      record e { hour = max mid.hour d.hour } ∷ [] =
      kept-snoc old.hour es e ∙ ap (λ h. kept old.hour es ++ record e { hour = max h d.hour } ∷
      []) (sym l.hour) in
      record {
        book = a.appended ∙ ap (λ b. b ++ record e { hour = max mid.hour d.hour } ∷ []) l.book ∙
            append_assoc old.book (kept old.hour es) (record e { hour = max mid.hour d.hour } ∷
            []) ∙ ap (λ b. old.book ++ b) (sym k);
        chain = subst (λ b. Chain step old.state b new.state) (sym k)
            (chain-snoc old.state (kept old.hour es) mid.state (record e {
              hour =
                  max mid.hour d.hour;
            }) new.state l.chain a.stepped);
        hour = a.latest ∙ sym (last_hour-snoc old.hour (kept old.hour es) (record e {
          hour =
              max mid.hour d.hour;
        })) ∙ ap (last_hour old.hour) (sym k);
      }

  -- where the store hasn't failed, nothing is in doubt
  pub no_doubt : (limit : ℕ) (book : List (Entry C R)) (doubt : Option (Entry C R))
      (f : Option (Call C R)) → MatchOption doubt (Unit {0}) (IsInDoubt limit book f) →
      is_some f ≡ false → doubt ≡ None
  no_doubt limit book None f h n = refl
  no_doubt limit book (Some e) None h n = absurd h
  no_doubt limit book (Some e) (Some call) h n = cc

  module _ (limit : ℕ) (closed : Bool) (old : Content S C R) where
    -- what a run answers
    abbrev Answers : List (Call C R) → Type 0
    Answers calls = (before : List (Call C R)) (call : Call C R) (after : List (Call C R)) →
        calls ≡ before ++ call ∷ after →
        MayAnswer limit (closed || is_some (failed before)) (old.book ++
        kept old.hour (once old.book before)) call

    -- where the store hasn't failed, `once` alone leads on
    settled : (calls : List (Call C R)) (mid : Content S C R) → Run step limit closed old calls mid
        → is_some (failed calls) ≡ false → Leads step old (once old.book calls) mid
    settled calls mid r n =
        let e : r.doubt ≡ None = no_doubt limit _ r.doubt (failed calls) r.in_doubt n in
        subst (λ es. Leads step old es mid) (append-nil (once old.book calls))
        (subst (λ o. Leads step old (once old.book calls ++ option_to_list o) mid) e r.leads)

    build : (calls : List (Call C R)) (new : Content S C R) (doubt : Option (Entry C R))
        (es : List (Entry C R)) (f : Option (Call C R)) → once old.book calls ≡ es →
        failed calls ≡ f → MatchOption doubt (Unit {0}) (IsInDoubt limit (old.book ++
        kept old.hour es) f) → Leads step old (es ++ option_to_list doubt) new → Answers calls →
        Run step limit closed old calls new
    build calls new doubt es f o g i l a = record {
      doubt = doubt;
      in_doubt = subst (λ x. MatchOption doubt (Unit {0}) (IsInDoubt limit (old.book ++
          kept old.hour x) (failed calls))) (sym o)
          (subst (λ x. MatchOption doubt (Unit {0}) (IsInDoubt limit (old.book ++ kept old.hour es)
          x)) (sym g) i);
      leads = subst (λ x. Leads step old (x ++ option_to_list doubt) new) (sym o) l;
      answers = a;
    }

    -- an answer that may be given at the content's book may be at that of `once`
    at_once : (calls : List (Call C R)) (mid : Content S C R) → Run step limit closed old calls mid
        → (call : Call C R) → MayAnswer limit (closed || is_some (failed calls)) mid.book call →
        MayAnswer limit (closed || is_some (failed calls)) (old.book ++
        kept old.hour (once old.book calls)) call
    at_once calls mid r (Load a) h = h
    at_once calls mid r (Deliver d (Err Closed)) h = h
    at_once calls mid r (Deliver d (Err NoMemory)) h = h
    at_once calls mid r (Deliver d (Err StoreFault)) h = h
    at_once calls mid r (Deliver d (Err BookFull)) h =
        subst (λ b. MayAnswer limit (closed || is_some (failed calls)) b (Deliver d (Err BookFull)))
        (settled calls mid r (or_right closed _ h.0)).book h
    at_once calls mid r (Deliver d (Err NumberReused)) h =
        subst (λ b. MayAnswer limit (closed || is_some (failed calls)) b
        (Deliver d (Err NumberReused))) (settled calls mid r (or_right closed _ h.0)).book h
    at_once calls mid r (Deliver d (Ok reply)) h =
        subst (λ b. MayAnswer limit (closed || is_some (failed calls)) b (Deliver d (Ok reply)))
        (settled calls mid r (or_right closed _ h.0)).book h

    answers_more : (calls : List (Call C R)) (call : Call C R) → Answers calls →
        MayAnswer limit (closed || is_some (failed calls)) (old.book ++
        kept old.hour (once old.book calls)) call → Answers (calls ++ call ∷ [])
    answers_more calls call all this before s after e =
        elim (split_last calls call before s after e) [
          | inl p ↦ rw (p.0, p.1) this
          | inr q ↦ all before s q.0 q.1
        ]

    -- a delivery that acts is one more of `once`, and one that doesn't is none
    run_ok : (calls : List (Call C R)) (mid : Content S C R) → Run step limit closed old calls mid →
        (d : Delivery C) (reply : R) (new : Content S C R) → Leads step old (once old.book calls)
        mid → Answers (calls ++ Deliver d (Ok reply) ∷ []) → (o : Option (Entry C R)) →
        entry_of d.key mid.book ≡ o → MatchOption o (Acts step mid d reply new) (λ _. new ≡ mid) →
        Run step limit closed old (calls ++ Deliver d (Ok reply) ∷ []) new
    run_ok calls mid r d reply new l a None e h =
        let n : is_known d.key (old.book ++ once old.book calls) ≡ false =
        sym (known_kept d.key old.book old.hour (once old.book calls)) ∙ ap (is_known d.key)
        (sym l.book) ∙ ap is_some e in
        let more : Leads step old (once old.book calls ++ record {
          key = d.key;
          hour = d.hour;
          command = d.command;
          reply = reply;
        } ∷ []) new = leads-snoc old (once old.book calls)
        mid d reply new l h in
        build _ new None _ (failed calls) (once-new old.book calls d reply n)
        (failed-ok calls (Deliver d (Ok reply)) refl) tt (subst (λ es. Leads step old es new)
        (sym (append-nil _)) more) a
    run_ok calls mid r d reply new l a (Some x) e h =
        let n : is_known d.key (old.book ++ once old.book calls) ≡ true =
        sym (known_kept d.key old.book old.hour (once old.book calls)) ∙ ap (is_known d.key)
        (sym l.book) ∙ ap is_some e in
        build _ new r.doubt _ (failed calls) (once-old old.book calls d reply n)
        (failed-ok calls (Deliver d (Ok reply)) refl) r.in_doubt
        (subst (λ c. Leads step old (once old.book calls ++ option_to_list r.doubt) c) (sym h)
        r.leads) a

    -- a call that decides nothing and changes nothing, and in which the store doesn't fail
    run_still : (calls : List (Call C R)) (mid : Content S C R) → Run step limit closed old calls
        mid → (call : Call C R) (new : Content S C R) → decision call ≡ [] →
        meets_fault call ≡ false → MayAnswer limit (closed || is_some (failed calls)) mid.book call
        → new ≡ mid → Run step limit closed old (calls ++ call ∷ []) new
    run_still calls mid r call new n f m e = build _ new r.doubt _ (failed calls)
        (once-none old.book calls call n) (failed-ok calls call f) r.in_doubt
        (subst (λ c. Leads step old (once old.book calls ++ option_to_list r.doubt) c) (sym e)
        r.leads) (answers_more calls call r.answers (at_once calls mid r call m))

    -- a call that decides nothing and changes nothing, and in which the store fails
    run_fault : (calls : List (Call C R)) (mid : Content S C R) → Run step limit closed old calls
        mid → (call : Call C R) (new : Content S C R) → decision call ≡ [] →
        meets_fault call ≡ true → MayAnswer limit (closed || is_some (failed calls)) mid.book call →
        is_some (failed calls) ≡ false → new ≡ mid → Run step limit closed old (calls ++ call ∷
        []) new
    run_fault calls mid r call new n f m o e =
        build _ new None _ _ (once-none old.book calls call n) (failed-new calls call o f) tt
        (subst (λ c. Leads step old (once old.book calls ++ []) c) (sym e)
        (subst (λ es. Leads step old es mid) (sym (append-nil _)) (settled calls mid r o)))
        (answers_more calls call r.answers (at_once calls mid r call m))

    -- a run goes on by one call
    pub run_snoc : (calls : List (Call C R)) (mid : Content S C R) (call : Call C R)
        (new : Content S C R) → Run step limit closed old calls mid → Called step limit (closed ||
        is_some (failed calls)) mid call new → Run step limit closed old (calls ++ call ∷ []) new
    run_snoc calls mid (Deliver d (Ok reply)) new r h = run_ok calls mid r d reply new
        (settled calls mid r (or_right closed _ h.may.0)) (answers_more calls (Deliver d (Ok reply))
        r.answers (at_once calls mid r (Deliver d (Ok reply)) h.may)) _ refl h.leaves
    run_snoc calls mid (Deliver d (Err StoreFault)) new r h =
        let n : is_some (failed calls) ≡ false = or_right closed _ h.may in
        let l : Leads step old (once old.book calls) mid = settled calls mid r n in
        elim h.leaves [
          | inl e ↦ run_fault calls mid r (Deliver d (Err StoreFault)) new refl refl h.may n e
          | inr k ↦ build _ new (Some (record {
            key = d.key;
            hour = d.hour;
            command = d.command;
            reply = k.2.0;
          })) _ _ (once-none old.book calls (Deliver d (Err StoreFault)) refl)
              (failed-new calls (Deliver d (Err StoreFault)) n refl) (
                refl,
                refl,
                refl,
                subst (λ b. entry_of d.key b ≡ None) l.book k.0,
                subst (λ b. length b < limit) l.book
                    k.1,
              ) (leads-snoc old (once old.book calls) mid d k.2.0 new l k.2.1)
              (answers_more calls (Deliver d (Err StoreFault)) r.answers
              (at_once calls mid r (Deliver d (Err StoreFault)) h.may))
        ]
    run_snoc calls mid (Deliver d (Err BookFull)) new r h =
        run_still calls mid r (Deliver d (Err BookFull)) new refl refl h.may h.leaves
    run_snoc calls mid (Deliver d (Err Closed)) new r h =
        run_still calls mid r (Deliver d (Err Closed)) new refl refl h.may h.leaves
    run_snoc calls mid (Deliver d (Err NoMemory)) new r h =
        run_still calls mid r (Deliver d (Err NoMemory)) new refl refl h.may h.leaves
    run_snoc calls mid (Deliver d (Err NumberReused)) new r h =
        run_still calls mid r (Deliver d (Err NumberReused)) new refl refl h.may h.leaves
    run_snoc calls mid (Load (Ok done)) new r h = run_still calls mid r (Load (Ok done)) new refl
        refl h.may h.leaves
    run_snoc calls mid (Load (Err StoreFault)) new r h =
        run_fault calls mid r (Load (Err StoreFault)) new refl refl h.may (or_right closed _ h.may)
        h.leaves
    run_snoc calls mid (Load (Err BookFull)) new r h = absurd h.may
    run_snoc calls mid (Load (Err Closed)) new r h = run_still calls mid r (Load (Err Closed)) new
        refl refl h.may h.leaves
    run_snoc calls mid (Load (Err NoMemory)) new r h = run_still calls mid r (Load (Err NoMemory))
        new refl refl h.may h.leaves
    run_snoc calls mid (Load (Err NumberReused)) new r h = absurd h.may

    -- a run of no calls
    pub run_none : Run step limit closed old [] old
    run_none = build [] old None [] None refl refl tt (record {
      book = sym (append-nil old.book);
      chain = refl;
      hour = refl;
    }) (λ before s after e. no_member before s after e)

    -- the same, where a crash leaves nothing but the content
    pub run_left : (may : Option (Content S C R) → Type 0) → LeavesOnly may old →
        CrashLeaves may (Run step limit closed old [])
    run_left may only = leaves_map may (λ left. left ≡ old) (Run step limit closed old [])
        (λ left e. subst (λ c. Run step limit closed old [] c) (sym e) run_none) only

    -- a run of one call
    pub run_one : (call : Call C R) (new : Content S C R) → Called step limit closed old call new →
        Run step limit closed old (call ∷ []) new
    run_one call new h = run_snoc [] old call new run_none
        (subst (λ b. Called step limit b old call new) (or_false closed) h)

    -- a run of deliveries goes on by one, as a loop does
    pub run_more : (ds : List (Delivery C)) (sofar later : List (Result R Fault)) (limit' : ℕ)
        (closed' : Bool) (mid : Content S C R) (d : Delivery C) (a : Result R Fault)
        (new : Content S C R) → length sofar ≡ length ds → later ≡ sofar ++ a ∷ [] →
        limit' ≡ limit → closed' ≡ (closed || is_some (failed (calls_of ds sofar))) →
        Run step limit closed old (calls_of ds sofar) mid → Called step limit' closed' mid
        (Deliver d a) new → Run step limit closed old (calls_of (ds ++ d ∷ []) later) new
    run_more ds sofar later limit' closed' mid d a new n more l k r h =
        let g : Called step limit (closed || is_some (failed (calls_of ds sofar))) mid (Deliver d a)
        new = subst (λ b. Called step limit b mid (Deliver d a) new) k
        (subst (λ m. Called step m closed' mid (Deliver d a) new) l h) in
        subst (λ xs. Run step limit closed old xs new)
        (sym (calls_of-snoc ds sofar later d a n more)) (run_snoc (calls_of ds sofar) mid
        (Deliver d a) new r g)

    -- what a crash may leave after one delivery more: what it may leave where the book was open,
    -- and what was left before it where the book was closed
    pub left_more : (ds : List (Delivery C)) (sofar later : List (Result R Fault)) (limit' m : ℕ)
        (mid : Content S C R) (d : Delivery C) (a : Result R Fault) (was is : Option (Content S C R)
        → Type 0) → length sofar ≡ length ds → later ≡ sofar ++ a ∷ [] → limit' ≡ limit →
        nat_lt 0 m ≡ (closed || is_some (failed (calls_of ds sofar))) →
        Run step limit closed old (calls_of ds sofar) mid →
        CrashLeaves was (Run step limit closed old (calls_of ds sofar)) →
        (m ≡ 0 → CrashLeaves is (Called step limit' false mid (Deliver d a))) → (0 < m → was ≡ is) →
        is_closed_fault a ≡ nat_lt 0 m →
        CrashLeaves is (Run step limit closed old (calls_of (ds ++ d ∷ []) later))
    left_more ds sofar later limit' zero mid d a was is n more l k r w o s t =
        leaves_map is (Called step limit' false mid (Deliver d a)) (Run step limit closed old
        (calls_of (ds ++ d ∷ []) later)) (λ left i. run_more ds sofar later limit' false mid d a
        left n more l k r i) (o refl)
    left_more ds sofar later limit' (suc m) mid d a was is n more l k r w o s t =
        let above : 0 < suc m = omega arith in
        let f : nat_lt 0 (suc m) ≡ true = above_zero 0 (suc m) above in
        let c : a ≡ Err Closed = is_closed_answer a (t ∙ f) in
        leaves_map is (Run step limit closed old (calls_of ds sofar)) (Run step limit closed old
        (calls_of (ds ++ d ∷ []) later)) (λ left i. run_more ds sofar later limit' true left d a
        left n more l (sym f ∙ k) i (subst (λ x. Called step limit' true left (Deliver d x)
        left) (sym c) (record { may = refl; leaves = refl })))
        (subst (λ may. CrashLeaves may (Run step limit closed old (calls_of ds sofar))) (s above) w)

-- the same call, where the steps are the same
pub other_step : {S C R : Type 0} (mine yours : S → ℕ → C → R → S → Type 0) (limit : ℕ)
    (closed : Bool) (old : Content S C R) (call : Call C R) (new : Content S C R) → mine ≡ yours →
    Called mine limit closed old call new → Called yours limit closed old call new
other_step mine yours limit closed old call new e h =
    subst (λ step. Called step limit closed old call new) e h
