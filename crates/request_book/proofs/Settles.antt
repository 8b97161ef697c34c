-- A run goes on with what the calls of a later one come to.
use Rattle.std.proofs.Common.{◌++◌, ◌<◌, ◌≡◌, ◌∙◌, ◌∷◌, List, MatchOption, None, Option, Some, []}
use Rattle.std.proofs.Common.{ap, append-nil, append_assoc, inl, inr, length, refl, subst, sym, ℕ}
use Rattle.std.specs.Prelude.{Err, Ok, Result, cond, false, is_some, true}
use Rattle.std.specs.Option.{option_to_list}
use Rattle.ring_words.specs.declared.request.Delivery.{Delivery}
use Rattle.request_book.specs.declared.book.Fault.{Fault}
use Rattle.request_book.specs.declared.book.Fault.TheVariants.{BookFull, Closed, NoMemory}
use Rattle.request_book.specs.declared.book.Fault.TheVariants.{NumberReused, StoreFault}
use Rattle.request_book.specs.declared.entry.Entry.{Entry}
use Rattle.request_book.specs.Call.{Call, Deliver, Load, failed, meets_fault}
use Rattle.request_book.specs.Called.{Acts, Called}
use Rattle.request_book.specs.Content.{Content, entry_of}
use Rattle.request_book.specs.Once.{firsts, once}
use Rattle.request_book.specs.Run.{Leads, MayRepeat, RepeatsAreKept, Run, kept}
use Rattle.request_book.specs.Settled.{ComeTo, ComesTo}
use Rattle.request_book.proofs.Calls.{failed-ok}
use Rattle.request_book.proofs.FirstCalls.{FindClosed, FirstOf, closed_decide, come_to_nothing}
use Rattle.request_book.proofs.FirstCalls.{find_closed, first_call, may_closed, none_failed, unled}
use Rattle.request_book.proofs.Runs.{no_doubt, run_snoc}

-- what two lists of calls come to, one after the other
pub come_on : {C R : Type 0} (calls more settled later : List (Call C R)) → ComeTo calls settled
    → ComeTo more later → ComeTo (calls ++ more) (settled ++ later)
come_on [] more settled later first second = subst (λ s. ComeTo more (s ++ later)) (sym first) second
come_on (call ∷ calls) more settled later first second = (
  first.0,
  first.1 ++ later,
  first.2,
  come_on calls more first.1 later first.3 second,
  ap (λ s. s ++ later) first.4 ∙ append_assoc first.0 first.1 later,
)

-- what one of several calls comes to, and those before and behind it
record IsSplit {C R : Type 0} (front : List (Call C R)) (call : Call C R) (back settled : List (Call C R))
    : Type 0 where
  before : List (Call C R)
  here : List (Call C R)
  behind : List (Call C R)
  front_comes : ComeTo front before
  comes : ComesTo call here
  back_comes : ComeTo back behind
  is : settled ≡ before ++ (here ++ behind)

split : {C R : Type 0} (front : List (Call C R)) (call : Call C R) (back settled : List (Call C R))
    → ComeTo (front ++ call ∷ back) settled → IsSplit front call back settled
split [] call back settled all = record {
  before = [];
  here = all.0;
  behind = all.1;
  front_comes = refl;
  comes = all.2;
  back_comes = all.3;
  is = all.4;
}
split (first ∷ front) call back settled all =
    let rest : IsSplit front call back all.1 = split front call back all.1 all.3 in
    record {
      before = all.0 ++ rest.before;
      here = rest.here;
      behind = rest.behind;
      front_comes = (all.0, rest.before, all.2, rest.front_comes, refl);
      comes = rest.comes;
      back_comes = rest.back_comes;
      is = all.4 ∙ ap (λ xs. all.0 ++ xs) rest.is
          ∙ sym (append_assoc all.0 rest.before (rest.here ++ rest.behind));
    }

module _ {C R : Type 0} (calls settled : List (Call C R)) (comes : ComeTo calls settled)
    (repeats : RepeatsAreKept settled) (before between after : List (Call C R)) (d b : Delivery C)
    (p : R) (key : d.key ≡ b.key) (command : d.command ≡ b.command) where
  -- two deliveries that came to themselves
  repeats_itself : (answer : Result R Fault)
      → ((here : List (Call C R)) → ComesTo (Deliver b answer) here → here ≡ Deliver b answer ∷ [])
      → calls ≡ before ++ Deliver d (Ok p) ∷ (between ++ Deliver b answer ∷ after)
      → MayRepeat p answer
  repeats_itself answer itself is =
      let one = split before (Deliver d (Ok p)) (between ++ Deliver b answer ∷ after) settled
      (subst (λ (cs : List (Call C R)). ComeTo cs settled) is comes) in
      let two = split between (Deliver b answer) after one.behind one.back_comes in
      let where_is : settled ≡ one.before ++ Deliver d (Ok p) ∷ (two.before ++
      Deliver b answer ∷ two.behind) =
      one.is ∙ ap (λ (h : List (Call C R)). one.before ++ (h ++ one.behind)) one.comes
      ∙ ap (λ (t : List (Call C R)). one.before ++ Deliver d (Ok p) ∷ t)
      (two.is ∙ ap (λ (h : List (Call C R)). two.before ++ (h ++ two.behind))
      (itself two.here two.comes)) in
      repeats one.before d p two.before b answer two.behind where_is key command

  -- each answer of one that comes again
  repeats_each : (answer : Result R Fault)
      → calls ≡ before ++ Deliver d (Ok p) ∷ (between ++ Deliver b answer ∷ after)
      → MayRepeat p answer
  repeats_each (Ok q) is = repeats_itself (Ok q) (λ here same. same) is
  repeats_each (Err NumberReused) is = repeats_itself (Err NumberReused) (λ here same. same) is
  repeats_each (Err BookFull) is = repeats_itself (Err BookFull) (λ here same. same) is
  repeats_each (Err NoMemory) is = tt
  repeats_each (Err StoreFault) is = tt
  repeats_each (Err Closed) is = tt

-- Where repeats are kept in what calls come to, they are in the calls.
pub repeats_before : {C R : Type 0} (calls settled : List (Call C R)) → ComeTo calls settled
    → RepeatsAreKept settled → RepeatsAreKept calls
repeats_before calls settled comes repeats before d p between b answer after is key command =
    repeats_each calls settled comes repeats before between after d b p key command answer is

module _ {S C R : Type 0} (step : S → ℕ → C → R → S → Type 0) (limit : ℕ) where
  -- what a run of no open book is
  record IsIdle (old : Content S C R) (calls : List (Call C R)) (new : Content S C R) : Type 0 where
    closed : FindClosed calls
    same : new ≡ old

  same_left : (old new : Content S C R) (decided : List (Entry C R)) (doubt : Option (Entry C R))
      → decided ≡ [] → doubt ≡ None → Leads step old (decided ++ option_to_list doubt) new
      → new ≡ old
  same_left old new decided doubt none clear leads = unled step limit old new
      (subst (λ (o : Option (Entry C R)). Leads step old ([] ++ option_to_list o) new) clear
      (subst (λ (es : List (Entry C R)). Leads step old (es ++ option_to_list doubt) new) none leads))

  idle : (old new : Content S C R) (calls : List (Call C R)) → Run step limit true old calls new
      → IsIdle old calls new
  idle old new calls run =
      let closed : FindClosed calls = find_closed calls (λ before call after is. may_closed limit _
      call (run.answers before call after is)) in
      record {
        closed = closed;
        same = same_left old new (once old.book calls) run.doubt
            (ap (firsts old.book) (closed_decide calls closed))
            (no_doubt step limit _ run.doubt (failed calls) run.in_doubt
            (ap (λ (o : Option (Call C R)). is_some o) (none_failed calls closed)))
            run.leads;
      }

  nothing_called : (old new : Content S C R) → Run step limit false old [] new → new ≡ old
  nothing_called old new run = same_left old new [] run.doubt refl
      (no_doubt step limit (old.book ++ kept old.hour []) run.doubt None run.in_doubt refl) run.leads

  module _ (first : Content S C R) where
    -- The calls come to some that are one run with those that were done before them, in which the
    -- store never failed. Where it failed in none of them, they come to themselves.
    pub record Settles (done calls : List (Call C R)) (new : Content S C R) : Type 0 where
      pub settled : List (Call C R)
      pub comes : ComeTo calls settled
      pub run : Run step limit false first (done ++ settled) new
      pub unfailed : failed (done ++ settled) ≡ None
      pub whole : failed calls ≡ None → settled ≡ calls

    -- one call more of an open book
    one_more : (done : List (Call C R)) (old mid : Content S C R) (call : Call C R)
        → Run step limit false first done old → failed done ≡ None
        → Called step limit false old call mid → Run step limit false first (done ++ call ∷ []) mid
    one_more done old mid call ran none called = run_snoc step limit false first done old call mid
        ran (subst (λ (o : Option (Call C R)). Called step limit (is_some o) old call mid) (sym none)
        called)

    -- a call that comes to itself in front of others
    itself : (done : List (Call C R)) (call : Call C R) (calls : List (Call C R))
        (new : Content S C R) → ComesTo call (call ∷ []) → meets_fault call ≡ false
        → Settles (done ++ call ∷ []) calls new → Settles done (call ∷ calls) new
    itself done call calls new comes well rest = record {
      settled = call ∷ rest.settled;
      comes = (call ∷ [], rest.settled, comes, rest.comes, refl);
      run = subst (λ (cs : List (Call C R)). Run step limit false first cs new)
          (append_assoc done (call ∷ []) rest.settled) rest.run;
      unfailed = subst (λ (cs : List (Call C R)). failed cs ≡ None)
          (append_assoc done (call ∷ []) rest.settled) rest.unfailed;
      whole = λ none. ap (λ (cs : List (Call C R)). call ∷ cs) (rest.whole
          (sym (ap (λ b. cond b (Some call) (failed calls)) well) ∙ none));
    }

    -- a call that comes to nothing, and ends the run
    gone : (done : List (Call C R)) (call : Call C R) (calls : List (Call C R))
        (old mid new : Content S C R) → ComesTo call [] → meets_fault call ≡ true
        → Run step limit false first done old → failed done ≡ None → mid ≡ old
        → IsIdle mid calls new → Settles done (call ∷ calls) new
    gone done call calls old mid new comes fault ran none same rest = record {
      settled = [];
      comes = ([], [], comes, come_to_nothing calls rest.closed, refl);
      run = subst (λ (cs : List (Call C R)). Run step limit false first cs new)
          (sym (append-nil done)) (subst (λ (c : Content S C R). Run step limit false first done c)
          (sym (rest.same ∙ same)) ran);
      unfailed = ap failed (append-nil done) ∙ none;
      whole = λ well. absurd (cc (sym (ap (λ b. cond b (Some call) (failed calls)) fault) ∙ well));
    }

    -- a delivery that the store kept as it failed
    kept_still : (done : List (Call C R)) (d : Delivery C) (calls : List (Call C R))
        (old mid new : Content S C R) (reply : R) → entry_of d.key old.book ≡ None
        → length old.book < limit → Acts step old d reply mid → Run step limit false first done old
        → failed done ≡ None → IsIdle mid calls new
        → Settles done (Deliver d (Err StoreFault) ∷ calls) new
    kept_still done d calls old mid new reply unknown room acts ran none rest =
        let call : Call C R = Deliver d (Ok reply) in
        let called : Called step limit false old call mid = record {
          may = (
            refl,
            subst (λ (o : Option (Entry C R)). MatchOption o (length old.book < limit)
                (λ e. (e.command ≡ d.command) × (reply ≡ e.reply))) (sym unknown) room,
          );
          leaves = subst (λ (o : Option (Entry C R)). MatchOption o (Acts step old d reply mid)
              (λ _. mid ≡ old)) (sym unknown) acts;
        } in
        record {
          settled = call ∷ [];
          comes = (
            call ∷ [],
            [],
            inr (reply, refl),
            come_to_nothing calls rest.closed,
            refl,
          );
          run = subst (λ (c : Content S C R). Run step limit false first (done ++ call ∷ []) c)
              (sym rest.same) (one_more done old mid call ran none called);
          unfailed = failed-ok done call refl ∙ none;
          whole = λ well. absurd (cc);
        }

    abbrev After : List (Call C R) → List (Call C R) → Content S C R → Content S C R → Type 0
    After done calls old new = Run step limit false first done old → failed done ≡ None
        → Run step limit false old calls new → Settles done calls new

    -- a call that comes to itself, and what comes of the others
    goes_on : (call : Call C R) (calls : List (Call C R)) (new : Content S C R)
        → ComesTo call (call ∷ []) → meets_fault call ≡ false
        → ((done : List (Call C R)) (old : Content S C R) → After done calls old new)
        → (done : List (Call C R)) (old : Content S C R) → After done (call ∷ calls) old new
    goes_on call calls new comes well others done old ran none run =
        let one : FirstOf step limit old call calls new = first_call step limit old new calls call run
        in
        itself done call calls new comes well (others (done ++ call ∷ []) one.mid
        (one_more done old one.mid call ran none one.called) (failed-ok done call well ∙ none)
        (subst (λ b. Run step limit b one.mid calls new) well one.rest))

    pub settles : (calls : List (Call C R)) (new : Content S C R) (done : List (Call C R))
        (old : Content S C R) → After done calls old new
    settles [] new done old ran none run = record {
      settled = [];
      comes = refl;
      run = subst (λ (cs : List (Call C R)). Run step limit false first cs new)
          (sym (append-nil done)) (subst (λ (c : Content S C R). Run step limit false first done c)
          (sym (nothing_called old new run)) ran);
      unfailed = ap failed (append-nil done) ∙ none;
      whole = λ well. refl;
    }
    settles (Deliver d (Ok reply) ∷ calls) new done old ran none run = goes_on (Deliver d (Ok reply)) calls new refl refl
        (settles calls new) done old
        ran none run
    settles (Deliver d (Err NumberReused) ∷ calls) new done old ran none run = goes_on (Deliver d (Err NumberReused)) calls
        new refl refl (settles calls new) done old
        ran none run
    settles (Deliver d (Err BookFull) ∷ calls) new done old ran none run = goes_on (Deliver d (Err BookFull)) calls new
        refl refl (settles calls new) done old
        ran none run
    settles (Deliver d (Err NoMemory) ∷ calls) new done old ran none run = goes_on (Deliver d (Err NoMemory)) calls new
        refl refl (settles calls new) done old
        ran none run
    settles (Load (Ok it) ∷ calls) new done old ran none run = goes_on (Load (Ok it)) calls new refl refl
        (settles calls new) done old
        ran none run
    settles (Load (Err NumberReused) ∷ calls) new done old ran none run = goes_on (Load (Err NumberReused)) calls new refl
        refl (settles calls new) done old
        ran none run
    settles (Load (Err BookFull) ∷ calls) new done old ran none run = goes_on (Load (Err BookFull)) calls new refl refl
        (settles calls new) done old
        ran none run
    settles (Load (Err NoMemory) ∷ calls) new done old ran none run = goes_on (Load (Err NoMemory)) calls new refl refl
        (settles calls new) done old
        ran none run
    settles (Deliver d (Err Closed) ∷ calls) new done old ran none run =
        let one = first_call step limit old new calls (Deliver d (Err Closed)) run in
        absurd (cc (one.called.may))
    settles (Load (Err Closed) ∷ calls) new done old ran none run =
        let one = first_call step limit old new calls (Load (Err Closed)) run in
        absurd (cc (one.called.may))
    settles (Load (Err StoreFault) ∷ calls) new done old ran none run =
        let one = first_call step limit old new calls (Load (Err StoreFault)) run in
        gone done (Load (Err StoreFault)) calls old one.mid new refl refl ran none one.called.leaves
        (idle one.mid new calls one.rest)
    settles (Deliver d (Err StoreFault) ∷ calls) new done old ran none run =
        let one = first_call step limit old new calls (Deliver d (Err StoreFault)) run in
        elim one.called.leaves [
          | inl same ↦ gone done (Deliver d (Err StoreFault)) calls old one.mid new (inl refl) refl
              ran none same (idle one.mid new calls one.rest)
          | inr kept ↦ kept_still done d calls old one.mid new kept.2.0 kept.0 kept.1 kept.2.1 ran
              none (idle one.mid new calls one.rest)
        ]
