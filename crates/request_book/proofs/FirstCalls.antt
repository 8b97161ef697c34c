-- A run is its first call and the run of the others.
use Rattle.std.proofs.Common.{◌++◌, ◌<◌, ◌≡◌, ◌∙◌, ◌∷◌, List, MatchOption, None, Option, Some, []}
use Rattle.std.proofs.Common.{ap, append-nil, append_assoc, inl, inr, length, max, refl, subst, sym}
use Rattle.std.proofs.Common.{ℕ}
use Rattle.std.specs.Prelude.{Err, Ok, cond, false, is_some, true}
use Rattle.std.specs.List.{AllByRecursion, flat_map}
use Rattle.std.specs.Option.{option_or, option_to_list}
use Rattle.std.proofs.lemmas.List.Folds.{find-append}
use Rattle.ring_words.specs.declared.request.Delivery.{Delivery}
use Rattle.ring_words.specs.declared.request.Key.{Key}
use Rattle.request_book.specs.declared.book.Fault.TheVariants.{BookFull, Closed, NoMemory}
use Rattle.request_book.specs.declared.book.Fault.TheVariants.{NumberReused, StoreFault}
use Rattle.request_book.specs.declared.entry.Entry.{Entry}
use Rattle.request_book.specs.Call.{Call, Deliver, Load, failed, finds_closed, meets_fault}
use Rattle.request_book.specs.Called.{Acts, Called}
use Rattle.request_book.specs.Content.{Content, entry_of, is_known, same_key}
use Rattle.request_book.specs.Once.{decision, firsts, once}
use Rattle.request_book.specs.Run.{IsInDoubt, Leads, MayAnswer, Run, kept}
use Rattle.request_book.specs.Settled.{ComeTo}
use Rattle.request_book.proofs.Once.{known_kept}

-- ---- which entries are decided, from the front

module _ {C R : Type 0} where
  some_or : (x y z : Option (Entry C R)) → is_some x ≡ is_some y
      → is_some (option_or x z) ≡ is_some (option_or y z)
  some_or None None z same = refl
  some_or (Some a) (Some b) z same = refl
  some_or None (Some b) z same = absurd (cc)
  some_or (Some a) None z same = absurd (cc)

  -- two books that know the same keys
  abbrev pub KnowAlike : List (Entry C R) → List (Entry C R) → Type 0
  KnowAlike one other = (key : Key) → is_known key one ≡ is_known key other

  know_one_more : (one other : List (Entry C R)) (e : Entry C R) → KnowAlike one other
      → KnowAlike (one ++ e ∷ []) (other ++ e ∷ [])
  know_one_more one other e alike key =
      ap is_some (find-append (λ x. same_key x.key key) one (e ∷ []))
      ∙ some_or (entry_of key one) (entry_of key other) (entry_of key (e ∷ [])) (alike key)
      ∙ ap is_some (sym (find-append (λ x. same_key x.key key) other (e ∷ [])))

  same_firsts : (one other es : List (Entry C R)) → KnowAlike one other
      → firsts one es ≡ firsts other es
  same_firsts one other [] alike = refl
  same_firsts one other (e ∷ es) alike =
      ap (λ b. cond b (firsts one es) (e ∷ firsts (one ++ e ∷ []) es)) (alike e.key)
      ∙ ap (λ (xs : List (Entry C R)). cond (is_known e.key other) xs (e ∷
      firsts (one ++ e ∷ []) es))
      (same_firsts one other es alike)
      ∙ ap (λ (xs : List (Entry C R)). cond (is_known e.key other) (firsts other es) (e ∷ xs))
      (same_firsts (one ++ e ∷ []) (other ++ e ∷ []) es (know_one_more one other e alike))

  -- the entry of a delivery
  abbrev pub entry : Delivery C → R → Entry C R
  entry d reply = record { key = d.key; hour = d.hour; command = d.command; reply = reply }

  -- a delivery of a key that is known in front of others
  pub known_once : (book : List (Entry C R)) (d : Delivery C) (reply : R)
      → is_known d.key book ≡ true → (more : List (Call C R))
      → once book (Deliver d (Ok reply) ∷ more) ≡ once book more
  known_once book d reply known more =
      ap (λ b. cond b (once book more) (entry d reply ∷ firsts (book ++ entry d reply ∷ [])
      (flat_map decision more))) known

  -- a delivery of a new key in front of others
  pub new_once : (book : List (Entry C R)) (hour : ℕ) (d : Delivery C) (reply : R)
      → is_known d.key book ≡ false → (more : List (Call C R))
      → once book (Deliver d (Ok reply) ∷ more)
      ≡ entry d reply ∷ once (book ++ kept hour (entry d reply ∷ [])) more
  new_once book hour d reply new more =
      let e : Entry C R = entry d reply in
      ap (λ b. cond b (once book more) (e ∷ firsts (book ++ e ∷ [])
      (flat_map decision more))) new
      ∙ ap (λ (es : List (Entry C R)). e ∷ es) (same_firsts (book ++ e ∷ [])
      (book ++ kept hour (e ∷ [])) (flat_map decision more)
      (λ key. sym (known_kept key book hour (e ∷ []))))

-- ---- the calls of a closed book

module _ {C R : Type 0} (limit : ℕ) where
  -- a closed book answers each call so, whatever it holds
  pub may_closed : (book : List (Entry C R)) (call : Call C R) → MayAnswer limit true book call
      → finds_closed call ≡ true
  may_closed book (Deliver d (Ok reply)) may = cc (may.0)
  may_closed book (Deliver d (Err NumberReused)) may = cc (may.0)
  may_closed book (Deliver d (Err BookFull)) may = cc (may.0)
  may_closed book (Deliver d (Err NoMemory)) may = cc
  may_closed book (Deliver d (Err StoreFault)) may = cc
  may_closed book (Deliver d (Err Closed)) may = refl
  may_closed book (Load (Ok done)) may = cc
  may_closed book (Load (Err NumberReused)) may = absurd may
  may_closed book (Load (Err BookFull)) may = absurd may
  may_closed book (Load (Err NoMemory)) may = cc
  may_closed book (Load (Err StoreFault)) may = cc
  may_closed book (Load (Err Closed)) may = refl

  pub closed_may : (book : List (Entry C R)) (call : Call C R) → finds_closed call ≡ true
      → MayAnswer limit true book call
  closed_may book (Deliver d (Ok reply)) closed = cc
  closed_may book (Deliver d (Err NumberReused)) closed = cc
  closed_may book (Deliver d (Err BookFull)) closed = cc
  closed_may book (Deliver d (Err NoMemory)) closed = cc
  closed_may book (Deliver d (Err StoreFault)) closed = cc
  closed_may book (Deliver d (Err Closed)) closed = refl
  closed_may book (Load (Ok done)) closed = cc
  closed_may book (Load (Err NumberReused)) closed = cc
  closed_may book (Load (Err BookFull)) closed = cc
  closed_may book (Load (Err NoMemory)) closed = cc
  closed_may book (Load (Err StoreFault)) closed = cc
  closed_may book (Load (Err Closed)) closed = refl

module _ {C R : Type 0} where
  -- each of the calls finds the book closed
  abbrev pub FindClosed : List (Call C R) → Type 0
  FindClosed calls = AllByRecursion (λ (call : Call C R). finds_closed call ≡ true) calls

  pub find_closed : (calls : List (Call C R)) → ((before : List (Call C R)) (call : Call C R)
      (after : List (Call C R)) → calls ≡ before ++ call ∷ after → finds_closed call ≡ true)
      → FindClosed calls
  find_closed [] each = tt
  find_closed (call ∷ calls) each = (
    each [] call calls refl,
    find_closed calls (λ before c after is. each (call ∷ before) c after
        (ap (λ (cs : List (Call C R)). call ∷ cs) is)),
  )

  -- such a call decides nothing, and comes to nothing
  closed_decides : (call : Call C R) → finds_closed call ≡ true → decision call ≡ []
  closed_decides (Deliver d (Ok reply)) closed = cc
  closed_decides (Deliver d (Err why)) closed = refl
  closed_decides (Load answer) closed = refl

  pub closed_decide : (calls : List (Call C R)) → FindClosed calls → flat_map decision calls ≡ []
  closed_decide [] closed = refl
  closed_decide (call ∷ calls) closed =
      ap (λ (es : List (Entry C R)). es ++ flat_map decision calls)
      (closed_decides call closed.0) ∙ closed_decide calls closed.1

  pub come_to_nothing : (calls : List (Call C R)) → FindClosed calls → ComeTo calls []
  come_to_nothing [] closed = refl
  come_to_nothing (Deliver d (Err Closed) ∷ calls) closed =
      ([], [], refl, come_to_nothing calls closed.1, refl)
  come_to_nothing (Load (Err Closed) ∷ calls) closed =
      ([], [], refl, come_to_nothing calls closed.1, refl)
  come_to_nothing (Deliver d (Ok reply) ∷ calls) closed = let is = closed.0 in absurd (cc)
  come_to_nothing (Deliver d (Err NumberReused) ∷ calls) closed = let is = closed.0 in absurd (cc)
  come_to_nothing (Deliver d (Err BookFull) ∷ calls) closed = let is = closed.0 in absurd (cc)
  come_to_nothing (Deliver d (Err NoMemory) ∷ calls) closed = let is = closed.0 in absurd (cc)
  come_to_nothing (Deliver d (Err StoreFault) ∷ calls) closed = let is = closed.0 in absurd (cc)
  come_to_nothing (Load (Ok done) ∷ calls) closed = let is = closed.0 in absurd (cc)
  come_to_nothing (Load (Err NumberReused) ∷ calls) closed = let is = closed.0 in absurd (cc)
  come_to_nothing (Load (Err BookFull) ∷ calls) closed = let is = closed.0 in absurd (cc)
  come_to_nothing (Load (Err NoMemory) ∷ calls) closed = let is = closed.0 in absurd (cc)
  come_to_nothing (Load (Err StoreFault) ∷ calls) closed = let is = closed.0 in absurd (cc)

  pub none_fails : (call : Call C R) → finds_closed call ≡ true → meets_fault call ≡ false
  none_fails (Deliver d (Ok reply)) closed = refl
  none_fails (Deliver d (Err NumberReused)) closed = refl
  none_fails (Deliver d (Err BookFull)) closed = refl
  none_fails (Deliver d (Err NoMemory)) closed = refl
  none_fails (Deliver d (Err StoreFault)) closed = absurd (cc)
  none_fails (Deliver d (Err Closed)) closed = refl
  none_fails (Load (Ok done)) closed = refl
  none_fails (Load (Err NumberReused)) closed = refl
  none_fails (Load (Err BookFull)) closed = refl
  none_fails (Load (Err NoMemory)) closed = refl
  none_fails (Load (Err StoreFault)) closed = absurd (cc)
  none_fails (Load (Err Closed)) closed = refl

  pub none_failed : (calls : List (Call C R)) → FindClosed calls → failed calls ≡ None
  none_failed [] closed = refl
  none_failed (call ∷ calls) closed =
      ap (λ b. cond b (Some call) (failed calls)) (none_fails call closed.0)
      ∙ none_failed calls closed.1

-- ---- one call in front of a run

module _ {S C R : Type 0} (step : S → ℕ → C → R → S → Type 0) (limit : ℕ) where
  -- a call that finds the book closed
  pub closed_called : (held : Content S C R) (call : Call C R) → finds_closed call ≡ true
      → Called step limit true held call held
  closed_called held (Deliver d (Err Closed)) closed = record { may = refl; leaves = refl }
  closed_called held (Load (Err Closed)) closed = record { may = refl; leaves = refl }
  closed_called held (Deliver d (Ok reply)) closed = cc
  closed_called held (Deliver d (Err NumberReused)) closed = cc
  closed_called held (Deliver d (Err BookFull)) closed = cc
  closed_called held (Deliver d (Err NoMemory)) closed = cc
  closed_called held (Deliver d (Err StoreFault)) closed = cc
  closed_called held (Load (Ok done)) closed = cc
  closed_called held (Load (Err NumberReused)) closed = cc
  closed_called held (Load (Err BookFull)) closed = cc
  closed_called held (Load (Err NoMemory)) closed = cc
  closed_called held (Load (Err StoreFault)) closed = cc

  -- what no decision leads to
  pub unled : (old new : Content S C R) → Leads step old [] new → new ≡ old
  unled old new leads = λ i. record {
    state = leads.chain i;
    book = (leads.book ∙ append-nil old.book) i;
    hour = leads.hour i;
  }

  -- what is called first of an open book, and the run of the others
  pub record FirstOf (old : Content S C R) (call : Call C R) (calls : List (Call C R))
      (new : Content S C R) : Type 0 where
    pub mid : Content S C R
    pub called : Called step limit false old call mid
    pub rest : Run step limit (meets_fault call) mid calls new

  module _ (old new : Content S C R) (calls : List (Call C R)) where
    may_first : (call : Call C R) → Run step limit false old (call ∷ calls) new
        → MayAnswer limit false old.book call
    may_first call run = subst (λ (b : List (Entry C R)). MayAnswer limit false b call)
        (append-nil old.book) (run.answers [] call calls refl)

    -- a call that decides nothing leaves the run of the others
    still : (call : Call C R)
        → ((more : List (Call C R)) → once old.book (call ∷ more) ≡ once old.book more)
        → meets_fault call ≡ false → Run step limit false old (call ∷ calls) new
        → Run step limit false old calls new
    still call same well run =
        let unfailed : (more : List (Call C R)) → failed (call ∷ more) ≡ failed more =
        λ more. ap (λ b. cond b (Some call) (failed more)) well in
        record {
          doubt = run.doubt;
          in_doubt =
              subst (λ (f : Option (Call C R)). MatchOption run.doubt (Unit {0}) (IsInDoubt limit
              (old.book ++ kept old.hour (once old.book calls)) f)) (unfailed calls)
              (subst (λ (es : List (Entry C R)). MatchOption run.doubt (Unit {0}) (IsInDoubt limit
              (old.book ++ kept old.hour es) (failed (call ∷ calls)))) (same calls) run.in_doubt);
          leads = subst (λ (es : List (Entry C R)). Leads step old (es ++
              option_to_list run.doubt) new) (same calls) run.leads;
          answers =
              λ before c after is. subst (λ (f : Option (Call C R)). MayAnswer limit (is_some f)
              (old.book ++ kept old.hour (once old.book before)) c) (unfailed before)
              (subst (λ (es : List (Entry C R)). MayAnswer limit (is_some (failed (call ∷ before)))
              (old.book ++ kept old.hour es) c) (same before)
              (run.answers (call ∷ before) c after (ap (λ (cs : List (Call C R)). call ∷ cs) is)));
        }

    first_still : (call : Call C R)
        → ((more : List (Call C R)) → once old.book (call ∷ more) ≡ once old.book more)
        → meets_fault call ≡ false
        → Called step limit false old call old
        → Run step limit false old (call ∷ calls) new → FirstOf old call calls new
    first_still call same well called run = record {
      mid = old;
      called = called;
      rest = subst (λ b. Run step limit b old calls new) (sym well) (still call same well run);
    }

    -- a delivery of a new key that got a reply
    first_new : (d : Delivery C) (reply : R) → entry_of d.key old.book ≡ None
        → Run step limit false old (Deliver d (Ok reply) ∷ calls) new
        → FirstOf old (Deliver d (Ok reply)) calls new
    first_new d reply is run =
        let fresh : is_known d.key old.book ≡ false = ap (λ (o : Option (Entry C R)). is_some o) is
        in
        let e : Entry C R = entry d reply in
        let here : List (Entry C R) = kept old.hour (e ∷ []) in
        let same : (more : List (Call C R)) → once old.book (Deliver d (Ok reply) ∷ more)
        ≡ e ∷ once (old.book ++ here) more = new_once old.book old.hour d reply fresh in
        let books : (more : List (Call C R)) → old.book ++ kept old.hour
        (once old.book (Deliver d (Ok reply) ∷ more))
        ≡ (old.book ++ here) ++ kept (max old.hour d.hour) (once (old.book ++ here) more) =
        λ more. ap (λ (es : List (Entry C R)). old.book ++ kept old.hour es) (same more)
        ∙ sym (append_assoc old.book here _) in
        let leads : Leads step old (e ∷ (once (old.book ++ here) calls ++
        option_to_list run.doubt)) new =
        subst (λ (es : List (Entry C R)). Leads step old (es ++ option_to_list run.doubt) new)
        (same calls) run.leads in
        let mid : Content S C R = record {
          state = leads.chain.0;
          book = old.book ++ here;
          hour = max old.hour d.hour;
        } in
        let acts : Acts step old d reply mid = record {
          stepped = leads.chain.1;
          appended = refl;
          latest = refl;
        } in
        record {
          mid = mid;
          called = record {
            may = may_first (Deliver d (Ok reply)) run;
            leaves = subst (λ (o : Option (Entry C R)). MatchOption o (Acts step old d reply mid)
                (λ _. mid ≡ old)) (sym is) acts;
          };
          rest = record {
            doubt = run.doubt;
            in_doubt = subst (λ (b : List (Entry C R)). MatchOption run.doubt (Unit {0})
                (IsInDoubt limit b (failed calls))) (books calls) run.in_doubt;
            leads = record {
              book = leads.book ∙ sym (append_assoc old.book here _);
              chain = leads.chain.2;
              hour = leads.hour;
            };
            answers =
                λ before c after at. subst (λ (b : List (Entry C R)). MayAnswer limit
                (is_some (failed before)) b c) (books before)
                (run.answers (Deliver d (Ok reply) ∷ before) c after
                (ap (λ (cs : List (Call C R)). Deliver d (Ok reply) ∷ cs) at));
          };
        }

    first_ok : (d : Delivery C) (reply : R) (had : Option (Entry C R))
        → entry_of d.key old.book ≡ had
        → Run step limit false old (Deliver d (Ok reply) ∷ calls) new
        → FirstOf old (Deliver d (Ok reply)) calls new
    first_ok d reply None is run = first_new d reply is run
    first_ok d reply (Some e) is run = first_still (Deliver d (Ok reply))
        (known_once old.book d reply (ap (λ (o : Option (Entry C R)). is_some o) is)) refl (record {
          may = may_first (Deliver d (Ok reply)) run;
          leaves = subst (λ (o : Option (Entry C R)). MatchOption o (Acts step old d reply old)
              (λ _. old ≡ old)) (sym is) refl;
        }) run

    -- where the store failed in a call, each later one finds the book closed
    closed_after : (call : Call C R) → meets_fault call ≡ true
        → Run step limit false old (call ∷ calls) new → FindClosed calls
    closed_after call fault run = find_closed calls (λ before c after is. may_closed limit _ c
        (subst (λ b. MayAnswer limit b (old.book ++ kept old.hour (once old.book (call ∷ before))) c)
        (ap (λ b. is_some (cond b (Some call) (failed before))) fault)
        (run.answers (call ∷ before) c after (ap (λ (cs : List (Call C R)). call ∷ cs) is))))

    -- a run of calls that find the book closed
    pub closed_run : (mid : Content S C R) → FindClosed calls → new ≡ mid
        → Run step limit true mid calls new
    closed_run mid closed same =
        let none : once mid.book calls ≡ [] = ap (firsts mid.book) (closed_decide calls closed) in
        record {
          doubt = None;
          in_doubt = tt;
          leads = subst (λ (es : List (Entry C R)). Leads step mid (es ++ []) new) (sym none) (record {
            book = ap (λ (c : Content S C R). c.book) same ∙ sym (append-nil mid.book);
            chain = ap (λ (c : Content S C R). c.state) same;
            hour = ap (λ (c : Content S C R). c.hour) same;
          });
          answers =
              λ before c after is. closed_may limit _ c (closed_at calls closed before c after is);
        }
      where
        closed_at : (cs : List (Call C R)) → FindClosed cs → (before : List (Call C R))
            (c : Call C R) (after : List (Call C R)) → cs ≡ before ++ c ∷ after
            → finds_closed c ≡ true
        closed_at [] all [] c after is = cc
        closed_at [] all (b ∷ before) c after is = cc
        closed_at (x ∷ xs) all [] c after is =
            let same : x ≡ c = cc in subst (λ (y : Call C R). finds_closed y ≡ true) same all.0
        closed_at (x ∷ xs) all (b ∷ before) c after is =
            closed_at xs all.1 before c after (cc)

    -- a delivery in which the store failed
    first_fault : (d : Delivery C) (doubt : Option (Entry C R))
        → MatchOption doubt (Unit {0}) (IsInDoubt limit (old.book ++
        kept old.hour (once old.book calls)) (Some (Deliver d (Err StoreFault))))
        → Leads step old (once old.book calls ++ option_to_list doubt) new → FindClosed calls
        → FirstOf old (Deliver d (Err StoreFault)) calls new
    first_fault d None in_doubt leads closed =
        let none : once old.book calls ≡ [] = ap (firsts old.book) (closed_decide calls closed) in
        let still : Leads step old [] new =
        subst (λ (es : List (Entry C R)). Leads step old (es ++ []) new) none leads in
        record {
          mid = old;
          called = record { may = refl; leaves = inl refl };
          rest = closed_run old closed (unled old new still);
        }
    first_fault d (Some e) in_doubt leads closed =
        let none : once old.book calls ≡ [] = ap (firsts old.book) (closed_decide calls closed) in
        let book : old.book ++ kept old.hour (once old.book calls) ≡ old.book =
        ap (λ (es : List (Entry C R)). old.book ++ kept old.hour es) none ∙ append-nil old.book in
        let same : e ≡ entry d e.reply = λ i. record {
          key = in_doubt.0 i;
          hour = in_doubt.1 i;
          command = in_doubt.2 i;
          reply = e.reply;
        } in
        let one : Leads step old (entry d e.reply ∷ []) new =
        subst (λ (x : Entry C R). Leads step old (x ∷ []) new) same
        (subst (λ (es : List (Entry C R)). Leads step old (es ++ e ∷ []) new) none leads) in
        let acts : Acts step old d e.reply new = record {
          stepped = subst (λ (s : S). step old.state (max old.hour d.hour) d.command e.reply s)
              (sym one.chain.2) one.chain.1;
          appended = one.book;
          latest = one.hour;
        } in
        let unknown : entry_of d.key old.book ≡ None =
        subst (λ (b : List (Entry C R)). entry_of d.key b ≡ None) book
        (subst (λ (k : Key). entry_of k (old.book ++ kept old.hour (once old.book calls)) ≡ None)
        in_doubt.0 in_doubt.3) in
        let room : length old.book < limit =
        subst (λ (b : List (Entry C R)). length b < limit) book in_doubt.4 in
        record {
          mid = new;
          called = record { may = refl; leaves = inr (unknown, room, (e.reply, acts)) };
          rest = closed_run new closed refl;
        }

    first_unread : (doubt : Option (Entry C R))
        → MatchOption doubt (Unit {0}) (IsInDoubt limit (old.book ++
        kept old.hour (once old.book calls)) (Some (Load (Err StoreFault))))
        → Leads step old (once old.book calls ++ option_to_list doubt) new → FindClosed calls
        → FirstOf old (Load (Err StoreFault)) calls new
    first_unread (Some e) in_doubt leads closed = absurd in_doubt
    first_unread None in_doubt leads closed =
        let none : once old.book calls ≡ [] = ap (firsts old.book) (closed_decide calls closed) in
        let still : Leads step old [] new =
        subst (λ (es : List (Entry C R)). Leads step old (es ++ []) new) none leads in
        record {
          mid = old;
          called = record { may = refl; leaves = refl };
          rest = closed_run old closed (unled old new still);
        }

    -- A run is its first call and the run of the others.
    pub first_call : (call : Call C R) → Run step limit false old (call ∷ calls) new
        → FirstOf old call calls new
    first_call (Deliver d (Ok reply)) run = first_ok d reply (entry_of d.key old.book) refl run
    first_call (Deliver d (Err StoreFault)) run = first_fault d run.doubt run.in_doubt run.leads
        (closed_after (Deliver d (Err StoreFault)) refl run)
    first_call (Deliver d (Err NumberReused)) run = first_still (Deliver d (Err NumberReused))
        (λ more. refl) refl
        (record { may = may_first (Deliver d (Err NumberReused)) run; leaves = refl }) run
    first_call (Deliver d (Err BookFull)) run = first_still (Deliver d (Err BookFull))
        (λ more. refl) refl
        (record { may = may_first (Deliver d (Err BookFull)) run; leaves = refl }) run
    first_call (Deliver d (Err NoMemory)) run = first_still (Deliver d (Err NoMemory))
        (λ more. refl) refl
        (record { may = may_first (Deliver d (Err NoMemory)) run; leaves = refl }) run
    first_call (Deliver d (Err Closed)) run = first_still (Deliver d (Err Closed)) (λ more. refl)
        refl (record { may = may_first (Deliver d (Err Closed)) run; leaves = refl }) run
    first_call (Load (Err StoreFault)) run = first_unread run.doubt run.in_doubt run.leads
        (closed_after (Load (Err StoreFault)) refl run)
    first_call (Load (Ok done)) run = first_still (Load (Ok done)) (λ more. refl) refl
        (record { may = may_first (Load (Ok done)) run; leaves = refl }) run
    first_call (Load (Err NumberReused)) run = absurd (may_first (Load (Err NumberReused)) run)
    first_call (Load (Err BookFull)) run = absurd (may_first (Load (Err BookFull)) run)
    first_call (Load (Err NoMemory)) run = first_still (Load (Err NoMemory)) (λ more. refl) refl
        (record { may = may_first (Load (Err NoMemory)) run; leaves = refl }) run
    first_call (Load (Err Closed)) run = first_still (Load (Err Closed)) (λ more. refl) refl
        (record { may = may_first (Load (Err Closed)) run; leaves = refl }) run
