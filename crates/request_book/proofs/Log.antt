-- The log of a run, and the run of a log.
use Rattle.std.proofs.Common.{◌+◌, ◌++◌, ◌<◌, ◌≡◌, ◌≤◌, ◌∙◌, ◌∷◌, List, MatchOption, None, Option}
use Rattle.std.proofs.Common.{Some, [], ap, append-nil, append_assoc, arith, cond, drop, length, map}
use Rattle.std.proofs.Common.{max, refl, subst, sym, take, ℕ}
use Rattle.std.specs.Prelude.{◌||◌, Bool, Ok, false, is_some, true}
use Rattle.std.specs.List.{flat_map}
use Rattle.std.specs.Option.{option_or, option_to_list}
use Rattle.std.proofs.lemmas.Bool.{cond_both}
use Rattle.std.proofs.lemmas.List.{drop-drop, drop_at, length_push, map_push}
use Rattle.std.proofs.lemmas.List.Folds.{find-append}
use Rattle.request_book.specs.declared.entry.Entry.{Entry}
use Rattle.request_book.specs.Call.{Call, Deliver, calls_of, failed}
use Rattle.request_book.specs.Called.{Acts, Called}
use Rattle.request_book.specs.Content.{Content, entries_from, entry_of, is_known, same_key}
use Rattle.request_book.specs.Log.{delivery_of, log_answers, log_deliveries}
use Rattle.request_book.specs.Once.{decision, firsts, once}
use Rattle.request_book.specs.Run.{Chain, Leads, Run, kept, last_hour}
use Rattle.request_book.proofs.FirstCalls.{KnowAlike}
use Rattle.request_book.proofs.Runs.{no_doubt, run_none, run_snoc}

none_known : {A : Type 0} (o : Option A) → is_some o ≡ false → o ≡ None
none_known None h = refl
none_known (Some x) h = cc

module _ {C R : Type 0} where
  -- ---- which entries are new, and at which hours they stand

  -- each entry is of a key that neither those seen nor those before it have
  abbrev pub AreNew : List (Entry C R) → List (Entry C R) → Type 0
  AreNew seen [] = Unit {0}
  AreNew seen (e ∷ es) = (is_known e.key seen ≡ false) × AreNew (seen ++ e ∷ []) es

  -- the first of each key are new
  firsts_new : (seen es : List (Entry C R)) → AreNew seen (firsts seen es)
  firsts_new seen [] = tt
  firsts_new seen (e ∷ es) =
      cond_both (is_known e.key seen) (firsts seen es) (e ∷ firsts (seen ++ e ∷ []) es) (AreNew seen)
      (λ known. firsts_new seen es) (λ new. (new, firsts_new (seen ++ e ∷ []) es))

  some_either : (x y z w : Option (Entry C R)) → is_some x ≡ is_some y → is_some z ≡ is_some w →
      is_some (option_or x z) ≡ is_some (option_or y w)
  some_either None None z w p q = q
  some_either (Some a) (Some b) z w p q = refl
  some_either None (Some b) z w p q = absurd (cc)
  some_either (Some a) None z w p q = absurd (cc)

  some_if : (v : Bool) (a b : Entry C R) → is_some (cond v (Some a) None) ≡
      is_some (cond v (Some b) None)
  some_if true a b = refl
  some_if false a b = refl

  -- books that know the same keys still do with one more entry of one key each
  alike_more : (one other : List (Entry C R)) (a b : Entry C R) → a.key ≡ b.key →
      KnowAlike one other → KnowAlike (one ++ a ∷ []) (other ++ b ∷ [])
  alike_more one other a b same alike key =
      let last : is_known key (a ∷ []) ≡ is_known key (b ∷ []) =
      ap (λ k. is_some (cond (same_key k key) (Some a) None)) same
      ∙ some_if (same_key b.key key) a b in
      ap is_some (find-append (λ x. same_key x.key key) one (a ∷ []))
      ∙ some_either (entry_of key one) (entry_of key other) (entry_of key (a ∷ []))
      (entry_of key (b ∷ [])) (alike key) last
      ∙ ap is_some (sym (find-append (λ x. same_key x.key key) other (b ∷ [])))

  -- whether entries are new does not depend on their hours
  new_kept : (hour : ℕ) (seen other es : List (Entry C R)) → KnowAlike other seen →
      AreNew seen es → AreNew other (kept hour es)
  new_kept hour seen other [] alike new = tt
  new_kept hour seen other (e ∷ es) alike new =
      let later : Entry C R = record e { hour = max hour e.hour } in (
        alike e.key ∙ new.0,
        new_kept (max hour e.hour) (seen ++ e ∷ []) (other ++ later ∷ []) es
            (alike_more other seen later e refl alike) new.1,
      )

  -- no entry is of an earlier hour than the one before it
  abbrev pub Rise : ℕ → List (Entry C R) → Type 0
  Rise hour [] = Unit {0}
  Rise hour (e ∷ es) = (hour ≤ e.hour) × Rise e.hour es

  kept_rise : (hour : ℕ) (es : List (Entry C R)) → Rise hour (kept hour es)
  kept_rise hour [] = tt
  kept_rise hour (e ∷ es) = (omega arith, kept_rise (max hour e.hour) es)

  -- ---- the log as calls

  -- an entry as a call, with its answer
  abbrev decided : Entry C R → Call C R
  decided e = Deliver (delivery_of e) (Ok e.reply)

  abbrev log_calls : List (Entry C R) → List (Call C R)
  log_calls es = map decided es

  log_calls_are : (es : List (Entry C R)) → log_calls es ≡ calls_of (log_deliveries es)
      (log_answers es)
  log_calls_are [] = refl
  log_calls_are (e ∷ es) = ap (λ (cs : List (Call C R)). decided e ∷ cs) (log_calls_are es)

  log_unfailed : (es : List (Entry C R)) → failed (log_calls es) ≡ None
  log_unfailed [] = refl
  log_unfailed (e ∷ es) = log_unfailed es

-- what is held with this state, this book and this hour
abbrev holding : {S C R : Type 0} → S → List (Entry C R) → ℕ → Content S C R
holding state book hour = record { state = state; book = book; hour = hour }

module _ {S C R : Type 0} (step : S → ℕ → C → R → S → Type 0) (limit : ℕ) (old : Content S C R)
  where
    -- where the store failed in no call, the decided deliveries alone lead on
    led : (closed : Bool) (calls : List (Call C R)) (new : Content S C R) →
        Run step limit closed old calls new → failed calls ≡ None →
        Leads step old (once old.book calls) new
    led closed calls new run none =
        let clear : run.doubt ≡ None = no_doubt step limit _ run.doubt (failed calls) run.in_doubt
        (ap is_some none) in
        subst (λ (es : List (Entry C R)). Leads step old es new) (append-nil (once old.book calls))
        (subst (λ o. Leads step old (once old.book calls ++ option_to_list o) new) clear run.leads)

    -- The log is the run: behind what a run found are its decided deliveries, page by page.
    pub log_is_run : (closed : Bool) (calls : List (Call C R)) (new : Content S C R)
        (place most : ℕ) → Run step limit closed old calls new → failed calls ≡ None →
        entries_from (length old.book + place) most new.book ≡ entries_from place most
        (kept old.hour (once old.book calls))
    log_is_run closed calls new place most run none =
        let es : List (Entry C R) = kept old.hour (once old.book calls) in
        let count = length old.book in
        ap (take most) (ap (drop (count + place)) (led closed calls new run none).book
        ∙ sym (drop-drop place count (old.book ++ es))
        ∙ ap (drop place) (drop_at old.book es count refl))

    -- ---- the log, run again

    abbrev Again : List (Entry C R) → Content S C R → Type 0
    Again es held = Run step limit false old (log_calls es) held

    -- one more entry, of a new key, where there is room
    again_more : (before : List (Entry C R)) (e : Entry C R) (held : Content S C R) (state : S) →
        Again before held → is_known e.key held.book ≡ false → length held.book < limit →
        held.hour ≤ e.hour → step held.state e.hour e.command e.reply state →
        Again (before ++ e ∷ []) (holding state (held.book ++ e ∷ []) e.hour)
    again_more before e held state run new room later stepped =
        let next : Content S C R = holding state (held.book ++ e ∷ []) e.hour in
        let hour : max held.hour e.hour ≡ e.hour = omega (arith, later) in
        let none : entry_of e.key held.book ≡ None = none_known _ new in
        let acts : Acts step held (delivery_of e) e.reply next = record {
          stepped = subst (λ h. step held.state h e.command e.reply state) (sym hour) stepped;
          appended = ap (λ (h : ℕ). held.book ++ record {
            key = e.key;
            hour = h;
            command = e.command;
            reply = e.reply;
          } ∷ []) (sym hour);
          latest = sym hour;
        } in
        let called : Called step limit (false || is_some (failed (log_calls before))) held
        (decided e) next = record {
          may = (
            ap is_some (log_unfailed before),
            subst (λ (o : Option (Entry C R)). MatchOption o (length held.book < limit)
                (λ (x : Entry C R). (x.command ≡ e.command) × (e.reply ≡ x.reply))) (sym none) room,
          );
          leaves = subst (λ (o : Option (Entry C R)). MatchOption o
              (Acts step held (delivery_of e) e.reply next) (λ _. next ≡ held)) (sym none) acts;
        } in
        subst (λ (cs : List (Call C R)). Run step limit false old cs next)
        (sym (map_push decided before e))
        (run_snoc step limit false old (log_calls before) held (decided e) next run called)

    -- further entries of new keys, at hours that do not fall
    again_all : (before es : List (Entry C R)) (held : Content S C R) (state : S) →
        Again before held → held.book ≡ before → AreNew before es → Rise held.hour es →
        length before + length es ≤ limit → Chain step held.state es state →
        Again (before ++ es) (holding state (before ++ es) (last_hour held.hour es))
    again_all before [] held state run same new up room chain =
        let one : holding state (before ++ []) held.hour ≡ held = λ i. record {
          state = chain i;
          book = (append-nil before ∙ sym same) i;
          hour = held.hour;
        } in
        subst (λ (es : List (Entry C R)). Again es (holding state (before ++ []) held.hour))
        (sym (append-nil before)) (subst (Again before) (sym one) run)
    again_all before (e ∷ es) held state run same new up room chain =
        let next : Content S C R = holding chain.0 (held.book ++ e ∷ []) e.hour in
        let fresh : is_known e.key held.book ≡ false =
        subst (λ (b : List (Entry C R)). is_known e.key b ≡ false) (sym same) new.0 in
        let here : length before < limit = omega (arith, room) in
        let space : length held.book < limit =
        subst (λ (b : List (Entry C R)). length b < limit) (sym same) here in
        let more : Again (before ++ e ∷ []) next =
        again_more before e held chain.0 run fresh space up.0 chain.1 in
        let rest = again_all (before ++ e ∷ []) es next state more
        (ap (λ (b : List (Entry C R)). b ++ e ∷ []) same) new.1 up.1
        (omega (arith, room, length_push before e)) chain.2 in
        subst (λ (xs : List (Entry C R)). Again xs (holding state xs (last_hour e.hour es)))
        (append_assoc before (e ∷ []) es) rest

    -- The log of a run that began with an empty book, run again over what it began with, may be
    -- answered as it was, and leaves what it left.
    pub run_again : (closed : Bool) (calls : List (Call C R)) (new : Content S C R) →
        Run step limit closed old calls new → failed calls ≡ None → old.book ≡ [] →
        length new.book ≤ limit →
        Run step limit false old (calls_of (log_deliveries new.book) (log_answers new.book)) new
    run_again closed calls new run none empty room =
        let first : List (Entry C R) = once old.book calls in
        let leads : Leads step old first new = led closed calls new run none in
        let book : new.book ≡ kept old.hour first =
        leads.book ∙ ap (λ (b : List (Entry C R)). b ++ kept old.hour first) empty in
        let fresh : AreNew [] new.book =
        subst (AreNew []) (sym book) (new_kept old.hour old.book [] first
        (λ key. ap (is_known key) (sym empty)) (firsts_new old.book (flat_map decision calls))) in
        let up : Rise old.hour new.book =
        subst (Rise old.hour) (sym book) (kept_rise old.hour first) in
        let chain : Chain step old.state new.book new.state =
        subst (λ (b : List (Entry C R)). Chain step old.state b new.state) (sym book) leads.chain in
        let left : Content S C R = holding new.state new.book (last_hour old.hour new.book) in
        let whole : Again new.book left = again_all [] new.book old new.state
        (run_none step limit false old) empty fresh up (omega (arith, room)) chain in
        let same : left ≡ new = λ i. record {
          state = new.state;
          book = new.book;
          hour = (ap (last_hour old.hour) book ∙ sym leads.hour) i;
        } in
        subst (λ (cs : List (Call C R)). Run step limit false old cs new) (log_calls_are new.book)
        (subst (Again new.book) same whole)
