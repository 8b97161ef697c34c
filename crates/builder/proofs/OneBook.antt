-- One list of deliveries leaves one book.
use Rattle.std.proofs.Common.{◌≡◌, ◌∙◌, ℕ, ◌<◌, ◌≤◌, ◌++◌, List, [], ◌∷◌, Option, Some, None, false}
use Rattle.std.proofs.Common.{true, sym, ap, append-nil, append_assoc, arith, length, max, refl}
use Rattle.std.proofs.Common.{subst}
use Rattle.std.specs.Prelude.{All, Err, MatchOption, Ok, Result, is_some}
use Rattle.std.specs.List.{AllByRecursion}
use Rattle.std.specs.Option.{option_or, option_to_list}
use Rattle.std.proofs.lemmas.List.Elements.{recursion_from_All}
use Rattle.std.proofs.lemmas.List.Folds.{find-append}
use Rattle.ring_words.specs.declared.request.Delivery.{Delivery}
use Rattle.ring_words.specs.declared.request.Limits.{Limits}
use Rattle.ring_words.specs.declared.command.Command.{Command}
use Rattle.ring_words.specs.declared.command.Reply.{Reply}
use Rattle.ring_words.specs.Limits.{long_count}
use Rattle.request_book.specs.Call.{Call, Deliver, calls_of, failed}
use Rattle.request_book.specs.Content.{Content, entry_of, is_known}
use Rattle.request_book.specs.Once.{once}
use Rattle.request_book.specs.Run.{IsInDoubt, Leads, MayAnswer, Run, kept}
use Rattle.request_book.specs.declared.book.Fault.{Fault}
use Rattle.request_book.specs.declared.book.Fault.TheVariants.{BookFull, Closed, NoMemory}
use Rattle.request_book.specs.declared.book.Fault.TheVariants.{NumberReused, StoreFault}
use Rattle.request_book.specs.declared.entry.Entry.{Entry}
use Rattle.request_book.proofs.FirstCalls.{entry, known_once, new_once}
use Rattle.builder.specs.Life.{IsProperDelivery, IsSure}
use Rattle.builder.specs.Safety.{AreValid, Entries}
use Rattle.builder.specs.Step.{State, Step}
use Rattle.builder.proofs.Functions.{step_is_one}
use Rattle.builder.proofs.ValidRings.{stay_valid}

abbrev Calls : Type 0
Calls = List (Call Command Reply)

-- ---- a run in which nothing is in doubt

-- the decided deliveries lead from old to new, and each call is answered by what the book then had
record IsSureRun (limits : Limits) (limit : ℕ) (old : Content State Command Reply) (calls : Calls)
    (new : Content State Command Reply) : Type 0 where
  leads : Leads (Step limits) old (once old.book calls) new
  answers : (before : Calls) (call : Call Command Reply) (after : Calls)
      → calls ≡ before ++ call ∷ after
      → MayAnswer limit false (old.book ++ kept old.hour (once old.book before)) call

none_in_doubt : (limit : ℕ) (book : Entries) (doubt : Option (Entry Command Reply))
    (fault : Option (Call Command Reply))
    → MatchOption doubt (Unit {0}) (IsInDoubt limit book fault) → fault ≡ None → doubt ≡ None
none_in_doubt limit book None fault doubted none = refl
none_in_doubt limit book (Some e) None doubted none = absurd doubted
none_in_doubt limit book (Some e) (Some call) doubted none = cc

first_none : (o p : Option (Call Command Reply)) → option_or o p ≡ None → o ≡ None
first_none None p none = refl
first_none (Some call) p none = none

sure_run : (limits : Limits) (limit : ℕ) (old : Content State Command Reply) (calls : Calls)
    (new : Content State Command Reply) → failed calls ≡ None
    → Run (Step limits) limit false old calls new → IsSureRun limits limit old calls new
sure_run limits limit old calls new none run = record {
  leads =
      let clear = none_in_doubt limit _ run.doubt (failed calls) run.in_doubt none in
      subst (λ (es : Entries). Leads (Step limits) old es new) (append-nil (once old.book calls))
      (subst (λ o. Leads (Step limits) old (once old.book calls ++ option_to_list o) new) clear
      run.leads);
  answers =
      λ before call after is. (let unfailed : failed before ≡ None = first_none (failed before) _
      (sym (find-append _ before (call ∷ after)) ∙ ap failed (sym is) ∙ none) in
      subst (λ o. MayAnswer limit (is_some o) (old.book ++ kept old.hour (once old.book before))
      call) unfailed (run.answers before call after is));
}

-- where each answer is sure, the store never failed
never_failed : (deliveries : List (Delivery Command)) (answers : List (Result Reply Fault))
    → AllByRecursion IsSure answers → failed (calls_of deliveries answers) ≡ None
never_failed [] answers sure = refl
never_failed (d ∷ ds) [] sure = refl
never_failed (d ∷ ds) (Ok reply ∷ more) sure = never_failed ds more sure.1
never_failed (d ∷ ds) (Err NumberReused ∷ more) sure = never_failed ds more sure.1
never_failed (d ∷ ds) (Err BookFull ∷ more) sure = never_failed ds more sure.1
never_failed (d ∷ ds) (Err NoMemory ∷ more) sure = absurd sure.0
never_failed (d ∷ ds) (Err StoreFault ∷ more) sure = absurd sure.0
never_failed (d ∷ ds) (Err Closed ∷ more) sure = absurd sure.0

-- ---- which entries are decided, from the front

-- a call that decides nothing new in front of others
still_once : (book : Entries) (d : Delivery Command) (a : Result Reply Fault)
    → is_known d.key book ≡ true → (more : Calls) → once book (Deliver d a ∷ more) ≡ once book more
still_once book d (Ok reply) known more = known_once book d reply known more
still_once book d (Err why) known more = refl

-- what a delivery's step leaves
abbrev left : Content State Command Reply → Delivery Command → Reply → State →
    Content State Command Reply
left old d reply mid = record {
  state = mid;
  book = old.book ++ kept old.hour (entry d reply ∷ []);
  hour = max old.hour d.hour;
}

-- ---- one call in front of a run

-- a call that decides nothing leaves the run of the others
still : (limits : Limits) (limit : ℕ) (old : Content State Command Reply)
    (call : Call Command Reply) (calls : Calls) (new : Content State Command Reply)
    → ((more : Calls) → once old.book (call ∷ more) ≡ once old.book more)
    → IsSureRun limits limit old (call ∷ calls) new → IsSureRun limits limit old calls new
still limits limit old call calls new same run = record {
  leads = subst (λ (es : Entries). Leads (Step limits) old es new) (same calls) run.leads;
  answers =
      λ before c after is. subst (λ (es : Entries). MayAnswer limit false (old.book ++
      kept old.hour es) c) (same before)
      (run.answers (call ∷ before) c after (ap (λ (cs : Calls). call ∷ cs) is));
}

-- what a delivery of a new key does, and the run of the others
record GoesOn (limits : Limits) (limit : ℕ) (old : Content State Command Reply)
    (d : Delivery Command) (reply : Reply) (calls : Calls) (new : Content State Command Reply) :
    Type 0 where
  mid : State
  step : Step limits old.state (max old.hour d.hour) d.command reply mid
  run : IsSureRun limits limit (left old d reply mid) calls new

goes_on : (limits : Limits) (limit : ℕ) (old : Content State Command Reply) (d : Delivery Command)
    (reply : Reply) (calls : Calls) (new : Content State Command Reply)
    → is_known d.key old.book ≡ false
    → IsSureRun limits limit old (Deliver d (Ok reply) ∷ calls) new
    → GoesOn limits limit old d reply calls new
goes_on limits limit old d reply calls new fresh run =
    let e : Entry Command Reply = entry d reply in
    let here : Entries = kept old.hour (e ∷ []) in
    let leads : Leads (Step limits) old (e ∷ once (old.book ++ here) calls) new =
    subst (λ (es : Entries). Leads (Step limits) old es new)
    (new_once old.book old.hour d reply fresh calls) run.leads in
    record {
      mid = leads.chain.0;
      step = leads.chain.1;
      run = record {
        leads = record {
          book = leads.book ∙ sym (append_assoc old.book here _);
          chain = leads.chain.2;
          hour = leads.hour;
        };
        answers =
            λ before c after is. subst (λ (b : Entries). MayAnswer limit false b c)
            (ap (λ (es : Entries). old.book ++ kept old.hour es)
            (new_once old.book old.hour d reply fresh before) ∙ sym (append_assoc old.book here _))
            (run.answers (Deliver d (Ok reply) ∷ before) c after (ap (λ (cs : Calls).
            Deliver d (Ok reply) ∷ cs) is));
      };
    }

-- ---- two runs from one content

-- valid rings at an hour of 32 bits
abbrev IsSound : Content State Command Reply → Type 0
IsSound content = AreValid content.state × (content.hour < long_count)

-- the first answers of two runs are one, and both go on from one valid content
record GoOnAlike (limits : Limits) (limit : ℕ) (one two : Result Reply Fault) (calls others : Calls)
    (new after : Content State Command Reply) : Type 0 where
  answer : one ≡ two
  mid : Content State Command Reply
  valid : IsSound mid
  first : IsSureRun limits limit mid calls new
  second : IsSureRun limits limit mid others after

module _ (limits : Limits) (limit : ℕ) (old : Content State Command Reply)
    (d : Delivery Command) (valid : IsSound old) where
  -- what an answer says of the book that it found
  abbrev May : Result Reply Fault → Type 0
  May a = MayAnswer limit false old.book (Deliver d a)

  may_first : (a : Result Reply Fault) (calls : Calls) (new : Content State Command Reply)
      → IsSureRun limits limit old (Deliver d a ∷ calls) new → May a
  may_first a calls new run =
      subst (λ (b : Entries). MayAnswer limit false b (Deliver d a)) (append-nil old.book)
      (run.answers [] (Deliver d a) calls refl)

  -- a key that is known has one sure answer
  one_known : (e : Entry Command Reply) → entry_of d.key old.book ≡ Some e
      → (a b : Result Reply Fault) → IsSure a → IsSure b → May a → May b → a ≡ b
  one_known e is (Ok p) (Ok q) sure also one two =
      let mine = rw is at one.1 in
      let yours = rw is at two.1 in
      ap Ok (mine.1 ∙ sym yours.1)
  one_known e is (Ok p) (Err NumberReused) sure also one two =
      let mine = rw is at one.1 in
      let yours = rw is at two.1 in
      absurd (yours mine.0)
  one_known e is (Err NumberReused) (Ok q) sure also one two =
      let mine = rw is at one.1 in
      let yours = rw is at two.1 in
      absurd (mine yours.0)
  one_known e is (Err NumberReused) (Err NumberReused) sure also one two = refl
  one_known e is (Err BookFull) b sure also one two = absurd (cc (is, one.1))
  one_known e is a (Err BookFull) sure also one two = absurd (cc (is, two.1))
  one_known e is (Err NoMemory) b sure also one two = absurd sure
  one_known e is (Err StoreFault) b sure also one two = absurd sure
  one_known e is (Err Closed) b sure also one two = absurd sure
  one_known e is a (Err NoMemory) sure also one two = absurd also
  one_known e is a (Err StoreFault) sure also one two = absurd also
  one_known e is a (Err Closed) sure also one two = absurd also

  module _ (calls others : Calls) (new after : Content State Command Reply)
      (proper : IsProperDelivery d) where
    abbrev Alike : Result Reply Fault → Result Reply Fault → Type 0
    Alike a b = IsSureRun limits limit old (Deliver d a ∷ calls) new
        → IsSureRun limits limit old (Deliver d b ∷ others) after
        → GoOnAlike limits limit a b calls others new after

    alike_known : (e : Entry Command Reply) → entry_of d.key old.book ≡ Some e
        → (a b : Result Reply Fault) → IsSure a → IsSure b → Alike a b
    alike_known e is a b sure also one two =
        let known : is_known d.key old.book ≡ true = ap is_some is in
        record {
          answer = one_known e is a b sure also (may_first a calls new one)
              (may_first b others after two);
          mid = old;
          valid = valid;
          first = still limits limit old (Deliver d a) calls new (still_once old.book d a known)
              one;
          second = still limits limit old (Deliver d b) others after
              (still_once old.book d b known) two;
        }

    -- a key that is new, where there is room
    alike_new : entry_of d.key old.book ≡ None → (p q : Reply) → Alike (Ok p) (Ok q)
    alike_new is p q one two =
        let fresh : is_known d.key old.book ≡ false = ap is_some is in
        let mine = goes_on limits limit old d p calls new fresh one in
        let yours = goes_on limits limit old d q others after fresh two in
        let same = step_is_one limits old.state mine.mid yours.mid (max old.hour d.hour) d.command
        p q valid.0 mine.step yours.step in
        let there = ap (λ (reply : Reply). left old d reply yours.mid) (sym same.0)
        ∙ ap (left old d p) (sym same.1) in
        record {
          answer = ap Ok same.0;
          mid = left old d p mine.mid;
          valid = let one = valid.1 in let other = proper.1 in
              let low : max old.hour d.hour < long_count = omega (arith, one, other) in (
                stay_valid limits old.state mine.mid (max old.hour d.hour) d.command p low mine.step
                    proper.0 valid.0,
                low,
              );
          first = mine.run;
          second = subst (λ (c : Content State Command Reply). IsSureRun limits limit c others
              after) there yours.run;
        }

    alike_full : Alike (Err BookFull) (Err BookFull)
    alike_full one two = record {
      answer = refl;
      mid = old;
      valid = valid;
      first = still limits limit old (Deliver d (Err BookFull)) calls new (λ more. refl) one;
      second = still limits limit old (Deliver d (Err BookFull)) others after (λ more. refl) two;
    }

    -- there is room, or there is none
    one_room : entry_of d.key old.book ≡ None → (p : Reply) → May (Ok p) → May (Err BookFull) → ⊥
    one_room is p one two =
        let room : length old.book < limit = rw is at one.1 in
        let full : limit ≤ length old.book = two.2 in
        omega arith

    not_reused : entry_of d.key old.book ≡ None → May (Err NumberReused) → ⊥
    not_reused is one = rw is at one.1

    alike_fresh : entry_of d.key old.book ≡ None → (a b : Result Reply Fault)
        → IsSure a → IsSure b → Alike a b
    alike_fresh is (Ok p) (Ok q) sure also one two = alike_new is p q one two
    alike_fresh is (Err BookFull) (Err BookFull) sure also one two = alike_full one two
    alike_fresh is (Ok p) (Err BookFull) sure also one two =
        absurd (one_room is p (may_first _ calls new one) (may_first _ others after two))
    alike_fresh is (Err BookFull) (Ok q) sure also one two =
        absurd (one_room is q (may_first _ others after two) (may_first _ calls new one))
    alike_fresh is (Err NumberReused) b sure also one two =
        absurd (not_reused is (may_first _ calls new one))
    alike_fresh is a (Err NumberReused) sure also one two =
        absurd (not_reused is (may_first _ others after two))
    alike_fresh is (Err NoMemory) b sure also one two = absurd sure
    alike_fresh is (Err StoreFault) b sure also one two = absurd sure
    alike_fresh is (Err Closed) b sure also one two = absurd sure
    alike_fresh is a (Err NoMemory) sure also one two = absurd also
    alike_fresh is a (Err StoreFault) sure also one two = absurd also
    alike_fresh is a (Err Closed) sure also one two = absurd also

    alike_first : (found : Option (Entry Command Reply)) → entry_of d.key old.book ≡ found
        → (a b : Result Reply Fault) → IsSure a → IsSure b → Alike a b
    alike_first None is a b sure also one two = alike_fresh is a b sure also one two
    alike_first (Some e) is a b sure also one two = alike_known e is a b sure also one two

-- what both runs give
abbrev AreOneBook : List (Result Reply Fault) → List (Result Reply Fault) →
    Content State Command Reply → Content State Command Reply → Type 0
AreOneBook answers others new after = (answers ≡ others) × (new ≡ after)

-- no call leaves the content
nothing_left : (limits : Limits) (limit : ℕ) (old new : Content State Command Reply)
    → IsSureRun limits limit old [] new → new ≡ old
nothing_left limits limit old new run = λ i. record {
  state = run.leads.chain i;
  book = (run.leads.book ∙ append-nil old.book) i;
  hour = run.leads.hour i;
}

one_book : (limits : Limits) (limit : ℕ) (old new after : Content State Command Reply)
    (deliveries : List (Delivery Command)) (answers others : List (Result Reply Fault))
    → length answers ≡ length deliveries → length others ≡ length deliveries
    → AllByRecursion IsSure answers → AllByRecursion IsSure others
    → AllByRecursion IsProperDelivery deliveries
    → IsSound old → IsSureRun limits limit old (calls_of deliveries answers) new
    → IsSureRun limits limit old (calls_of deliveries others) after
    → AreOneBook answers others new after
one_book limits limit old new after [] [] [] long even sure also proper valid one two =
    (refl, nothing_left limits limit old new one ∙ sym (nothing_left limits limit old after two))
one_book limits limit old new after (d ∷ ds) (a ∷ later) (b ∷ more) long even sure also proper
    valid one two =
    let go : GoOnAlike limits limit a b (calls_of ds later) (calls_of ds more) new after =
    alike_first limits limit old d valid (calls_of ds later) (calls_of ds more) new after proper.0
    (entry_of d.key old.book) refl a b sure.0 also.0 one two in
    let rest = one_book limits limit go.mid new after ds later more (omega arith) (omega arith)
    sure.1 also.1 proper.1 go.valid go.first go.second in (
      ap (λ (x : Result Reply Fault). x ∷ later) go.answer
          ∙ ap (λ (xs : List (Result Reply Fault)). b ∷ xs) rest.0,
      rest.1,
    )
one_book limits limit old new after [] (a ∷ later) others long even sure also proper valid one two =
    absurd (omega arith)
one_book limits limit old new after [] answers (b ∷ more) long even sure also proper valid one two =
    absurd (omega arith)
one_book limits limit old new after (d ∷ ds) [] others long even sure also proper valid one two =
    absurd (omega arith)
one_book limits limit old new after (d ∷ ds) answers [] long even sure also proper valid one two =
    absurd (omega arith)

-- the same of two runs in which nothing failed
pub same_book : (limits : Limits) (limit : ℕ) (old new after : Content State Command Reply)
    (deliveries : List (Delivery Command)) (answers others : List (Result Reply Fault))
    → length answers ≡ length deliveries → length others ≡ length deliveries
    → All IsSure answers → All IsSure others
    → old.hour < long_count → All IsProperDelivery deliveries → AreValid old.state
    → Run (Step limits) limit false old (calls_of deliveries answers) new
    → Run (Step limits) limit false old (calls_of deliveries others) after
    → AreOneBook answers others new after
same_book limits limit old new after deliveries answers others long even sure also small proper
    valid one two =
    let mine = recursion_from_All IsSure answers sure in
    let yours = recursion_from_All IsSure others also in
    one_book limits limit old new after deliveries answers others long even mine yours
    (recursion_from_All IsProperDelivery deliveries proper) (valid, small)
    (sure_run limits limit old (calls_of deliveries answers) new
    (never_failed deliveries answers mine) one)
    (sure_run limits limit old (calls_of deliveries others) after
    (never_failed deliveries others yours) two)
