-- All programs over one store, one after another, come to one run.
use Rattle.std.proofs.Common.{◌≡◌, ◌<◌, ◌≤◌, ◌∙◌, ◌∷◌, [], ℕ, List, None, Some, ap, append-nil, inl, inr}
use Rattle.std.proofs.Common.{append_assoc, subst, sym}
use Rattle.std.proofs.lemmas.List.Elements.{All-cons, All-nil, recursion_from_All}
use Rattle.std.specs.List.{AllByRecursion}
use Rattle.std.specs.Option.{option_to_list}
use Rattle.std.specs.Prelude.{◌++◌, All, IsSomeAnd, Option, false, is_some, nat_lt}
use Rattle.std.specs.Prelude.{true}
use Rattle.builder.proofs.KeptReplies.{life_keeps}
use Rattle.builder.proofs.Lives.{safe_life}
use Rattle.builder.proofs.Nothing.{short_nothing, valid_nothing}
use Rattle.builder.proofs.OneLife.{life_alike, life_repeats, one_life}
use Rattle.builder.specs.Life.{BookCalls, BookContent, IsProperCall, Lives, nothing_held}
use Rattle.builder.specs.Safety.{AreValid, AreValidOnTheWay, IsSafeRun}
use Rattle.builder.specs.Step.{State, Step}
use Rattle.request_book.proofs.FirstCalls.{closed_called, none_fails}
use Rattle.request_book.proofs.Runs.{run_snoc}
use Rattle.request_book.proofs.Calls.{failed-new, failed-ok}
use Rattle.request_book.specs.Call.{Call, failed, finds_closed, meets_fault}
use Rattle.request_book.specs.Called.{Called}
use Rattle.request_book.specs.Run.{Run}
use Rattle.ring_book.specs.Book.{Asked, Keeping}
use Rattle.ring_founding.proofs.Founded.{by_name_founded, few_founded, named_each, valid_each}
use Rattle.ring_founding.specs.Founding.{AreFounded}
use Rattle.ring_founding.specs.declared.founding.Terms.{Terms}
use Rattle.ring_text.specs.Snapshot.{IsValidSnapshot, SnapshotRecord}
use Rattle.ring_words.specs.Limits.{greatest_short, long_count, most_numbers}
use Rattle.ring_words.specs.declared.command.Command.{Command}
use Rattle.ring_words.specs.declared.command.Reply.{Reply}
use Rattle.ring_words.specs.declared.request.Limits.{Limits}
use Rattle.programs.proofs.Lives.{same_limits}
use Rattle.program_stores.specs.Stores.{Closing}
use Rattle.programs.specs.Begun.{AreServiceLimits}
use Rattle.programs.specs.Life.{EndsItself, WasCutOff, IsLeftIn, ProgramsAreOneRun, ProgramsLive}
use Rattle.programs.specs.Founding.{HoldRings}
use Rattle.programs.specs.Life.{FoundedStayValid, ProgramsStayValid, made_content}

-- Keepers of stores are these, begin so, and end so with what closing them answers.
module _ {K : Type 0} (g : Keeping K) (Begins : K → Type 0) (Ends : K → Closing → Type 0)
    (whole : (keeper : K) → Begins keeper
    → (g.fault_count keeper ≡ 0) × (g.limit keeper ≡ most_numbers)) (limits : Limits)
    (full : AreServiceLimits limits) where
  abbrev Runs : BookContent → BookCalls → BookContent → Type 0
  Runs old calls new = Run (Step limits) most_numbers false old calls new

  -- the run of a program that ended by itself
  ended_run : (old : BookContent) (calls : BookCalls) (new : BookContent)
      → EndsItself g Begins Ends old calls new → Runs old calls new
  ended_run old calls new e =
      let one = e.one in
      let is = whole one.keeper one.opened in
      subst (Runs old calls) e.left
      (subst (λ c. Runs c calls (g.content one.later)) e.found
      (subst (λ l. Run (Step limits) l false (g.content one.keeper) calls (g.content one.later)) is.1
      (subst (λ n. Run (Step limits) (g.limit one.keeper) (nat_lt 0 n) (g.content one.keeper) calls
      (g.content one.later)) is.0 (one.run limits full e.sound))))

  module _ (old : BookContent) (calls : BookCalls) (new : BookContent)
      (cut : WasCutOff g Begins Ends old calls new) where
    many : g.limit cut.first.keeper ≡ most_numbers
    many = (whole cut.first.keeper cut.opened.keeper).1

    same : cut.first.machine.limits ≡ limits
    same = same_limits cut.first.machine.limits limits cut.opened.full full

    -- what was answered
    answered_run : Runs old cut.answered (g.content cut.mid.keeper)
    answered_run =
        subst (λ c. Runs c cut.answered (g.content cut.mid.keeper)) cut.found
        (subst (λ l. Run (Step limits) l false (g.content cut.first.keeper) cut.answered
        (g.content cut.mid.keeper)) many
        (subst (λ n. Run (Step limits) (g.limit cut.first.keeper) (nat_lt 0 n)
        (g.content cut.first.keeper) cut.answered (g.content cut.mid.keeper))
        (whole cut.first.keeper cut.opened.keeper).0
        (subst (λ l. Run (Step l) (g.limit cut.first.keeper)
        (nat_lt 0 (g.fault_count cut.first.keeper)) (g.content cut.first.keeper) cut.answered
        (g.content cut.mid.keeper)) same (cut.made.run cut.sound))))

    -- and what was left in the midst of the next call
    left_run : (asked : Asked) → IsLeftIn g cut.mid asked new
        → Runs old (cut.answered ++ option_to_list asked) new
    left_run None still = subst (λ (cs : BookCalls). Runs old cs new) (sym (append-nil cut.answered))
        (subst (Runs old cut.answered) (sym still) answered_run)
    left_run (Some call) called =
        let machine : Limits = cut.mid.machine.limits in
        let alike : machine ≡ limits = ap (λ m. m.limits) cut.made.machine ∙ same in
        run_snoc (Step limits) most_numbers false old cut.answered (g.content cut.mid.keeper) call new
        answered_run
        (subst (λ (o : Option (Call Command Reply)). Called (Step limits) most_numbers (is_some o)
        (g.content cut.mid.keeper) call new) (sym cut.unfailed)
        (subst (λ l. Called (Step limits) l false (g.content cut.mid.keeper) call new)
        (cut.made.limits ∙ many)
        (subst (λ l. Called (Step l) (g.limit cut.mid.keeper) false (g.content cut.mid.keeper) call
        new) alike called)))

    -- behind a call in which the store failed
    behind_run : (front behind : BookCalls) → Runs old front new
        → is_some (failed front) ≡ true
        → AllByRecursion (λ (call : Call Command Reply). finds_closed call ≡ true) behind
        → Runs old (front ++ behind) new
    behind_run front [] run fault closed =
        subst (λ (cs : BookCalls). Runs old cs new) (sym (append-nil front)) run
    behind_run front (call ∷ behind) run fault closed =
        subst (λ (cs : BookCalls). Runs old cs new) (append_assoc front (call ∷ []) behind)
        (behind_run (front ++ call ∷ []) behind
        (run_snoc (Step limits) most_numbers false old front new call new run
        (subst (λ b. Called (Step limits) most_numbers b new call new) (sym fault)
        (closed_called (Step limits) most_numbers new call closed.0)))
        (ap (λ (o : Option (Call Command Reply)). is_some o) (failed-ok front call (none_fails call closed.0)) ∙ fault)
        closed.1)

    fault_came : (asked : Asked) → IsSomeAnd asked (λ call. meets_fault call ≡ true)
        → is_some (failed (cut.answered ++ option_to_list asked)) ≡ true
    fault_came None met = absurd met
    fault_came (Some call) met = ap (λ (o : Option (Call Command Reply)). is_some o)
        (failed-new cut.answered call
        (ap (λ (o : Option (Call Command Reply)). is_some o) cut.unfailed) met)

    whole_run : Runs old (cut.answered ++ option_to_list cut.asked) new
        → Runs old (cut.answered ++ option_to_list cut.asked ++ cut.behind) new
    whole_run run = elim cut.fault [
      | inl none ↦ subst (λ (cs : BookCalls). Runs old (cut.answered ++
          option_to_list cut.asked ++ cs) new) (sym none)
          (subst (λ (cs : BookCalls). Runs old cs new)
          (sym (append-nil (cut.answered ++ option_to_list cut.asked))) run)
      | inr met ↦ behind_run (cut.answered ++ option_to_list cut.asked) cut.behind run
          (fault_came cut.asked met)
          (recursion_from_All (λ (call : Call Command Reply). finds_closed call ≡ true) cut.behind
          cut.closed)
    ]

    cut_run : Runs old calls new
    cut_run = subst (λ (cs : BookCalls). Runs old cs new) (sym cut.calls_are)
        (whole_run (left_run cut.asked (cut.crash.each (Some new) cut.left)))

  -- the runs of programs are a life of their store
  lives : (old new : BookContent) (runs : List BookCalls)
      → ProgramsLive g Begins Ends old runs new → Lives limits most_numbers old runs new
  lives old new [] same = same
  lives old new (calls ∷ later) (mid, inl ended, rest) =
      (mid, ended_run old calls mid ended, lives mid new later rest)
  lives old new (calls ∷ later) (mid, inr cut, rest) =
      (mid, cut_run old calls mid cut, lives mid new later rest)

  proper : (old new : BookContent) (runs : List BookCalls)
      → ProgramsLive g Begins Ends old runs new → All (All IsProperCall) runs
  proper old new [] same = All-nil (All IsProperCall)
  proper old new (calls ∷ later) (mid, inl ended, rest) =
      All-cons (All IsProperCall) calls later ended.one.proper (proper mid new later rest)
  proper old new (calls ∷ later) (mid, inr cut, rest) =
      All-cons (All IsProperCall) calls later cut.proper (proper mid new later rest)

-- the rings that texts of files tell are valid
held_valid : (Holds : List ℕ → List ℕ → Type 0) (names : List (List ℕ))
    (snapshots : List SnapshotRecord) → HoldRings Holds names snapshots
    → All IsValidSnapshot snapshots
held_valid Holds [] snapshots none = subst (All IsValidSnapshot) (sym none) (All-nil IsValidSnapshot)
held_valid Holds (name ∷ names) snapshots all = subst (All IsValidSnapshot) (sym all.3)
    (All-cons IsValidSnapshot all.1 all.2 all.5.valid (held_valid Holds names all.2 all.6))

-- and founded beside valid ones they make valid ones
valid_founding : (Holds : List ℕ → List ℕ → Type 0) (terms : Terms) (old rings : State)
    (names : List (List ℕ)) (snapshots : List SnapshotRecord) → AreValid old
    → terms.min_hours ≤ greatest_short → terms.hour < long_count → HoldRings Holds names snapshots
    → AreFounded terms old snapshots rings → AreValid rings
valid_founding Holds terms old rings names snapshots valid hours late hold founded =
    let each : All IsValidSnapshot snapshots = held_valid Holds names snapshots hold in
    record {
      count = few_founded terms old snapshots rings founded valid.count;
      by_name = by_name_founded terms old snapshots rings founded valid.by_name;
      named = named_each terms old snapshots rings each founded valid.named;
      each = valid_each terms old snapshots rings late hours each founded valid.each;
    }

module _ {K : Type 0} (g : Keeping K) (Begins : List ℕ → K → Type 0) (Ends : K → Closing → Type 0)
    (whole : (name : List ℕ) (keeper : K) → Begins name keeper
    → (g.fault_count keeper ≡ 0) × (g.limit keeper ≡ most_numbers)) where
  -- All programs over one store come to one run.
  pub one_life_of_programs : ProgramsAreOneRun g Begins Ends
  one_life_of_programs = λ name limits old new runs full live.
      (let life : Lives limits most_numbers old runs new =
      lives g (Begins name) Ends (whole name) limits full old new runs live in
      record {
        one = one_life limits most_numbers old new runs life;
        safe = safe_life limits most_numbers old new runs life
            (proper g (Begins name) Ends (whole name) limits full old new runs live);
        kept = life_keeps limits most_numbers old new runs life;
        alike = life_alike limits most_numbers old new runs life;
        repeats = life_repeats limits most_numbers old new runs life;
      })

  -- From nothing on the rings are valid.
  pub valid_from_nothing : ProgramsStayValid g Begins Ends
  valid_from_nothing = λ name limits new runs full live.
      (let life = one_life_of_programs name limits nothing_held new runs full live in
      (life.safe, life.safe.valid valid_nothing short_nothing))

  -- From valid rings on they are valid too.
  valid_from : (name : List ℕ) (limits : Limits) (old new : BookContent) (runs : List BookCalls)
      → AreServiceLimits limits → AreValid old.state → old.hour < long_count
      → ProgramsLive g (Begins name) Ends old runs new
      → (safe : IsSafeRun limits old new) × AreValidOnTheWay safe.led
  valid_from name limits old new runs full valid short live =
      let life = one_life_of_programs name limits old new runs full live in
      (life.safe, life.safe.valid valid short)

  -- So they are from founded ones.
  pub valid_from_founded : (Holds : List ℕ → List ℕ → Type 0) → FoundedStayValid g Begins Ends Holds
  valid_from_founded Holds = λ terms old rings hour names snapshots name limits new runs valid hours
      late short hold founded full live.
      (valid_from name limits (made_content rings hour) new runs full
      (valid_founding Holds terms old rings names snapshots valid hours late hold founded) short live)
