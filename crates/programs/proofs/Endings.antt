-- How tasks end whose words were read.
use Rattle.std.proofs.Common.{◌≡◌, ◌⊎◌, inl, inr, List, Option, Result, Ok, Err, ℕ, refl, subst}
use Rattle.std.proofs.Common.{sym}
use Rattle.std.specs.Borrow.{Bor}
use Rattle.std.specs.Prelude.{IfErr, IfOk, OnOk}
use Rattle.byte_streams.specs.declared.counted.CountedReader.{CountedReader}
use Rattle.byte_streams.specs.declared.counted.CountedWriter.{CountedWriter}
use Rattle.command_line.specs.declared.task.Task.{Task}
use Rattle.command_line.specs.declared.task.Task.TheVariants as task
use Rattle.builder.specs.Step.{State}
use Rattle.program_stores.specs.Stores.{Closing}
use Rattle.programs.specs.Importing.{AsksImport}
use Rattle.programs.specs.Performed.{EndsBy, EndsSo, FailsSo, ImportsFile, ShowsStore}
use Rattle.programs.specs.Inner.Showing.{FailsToShowTask, IsShowing}
use Rattle.program_stores.specs.declared.faults.ProgramFault.{ProgramFault}
use Rattle.programs.specs.declared.importing.ImportAsk.{ImportAsk}
use Rattle.programs.specs.declared.performing.Ending.{Ending}
use Rattle.programs.specs.declared.performing.Ending.TheVariants.{Done, Refused}
use Rattle.ring_reads.specs.declared.reads.Question.{Question}
use Rattle.ring_book.specs.Book.{Keeping}

-- what is known of what was read
read_well : {A E : Type 0} (read : Result A E) (Asks : A → Type 0) (value : A) → IfOk read Asks
    → read ≡ Ok value → Asks value
read_well read Asks value asks is = subst (λ r. IfOk r Asks) is asks

-- and of why it wasn't
read_ill : {A E : Type 0} (read : Result A E) (Fails : E → Type 0) (why : E) → IfErr read Fails
    → read ≡ Err why → Fails why
read_ill read Fails why fails is = subst (λ r. IfErr r Fails) is fails

-- what was done with what was read, of which less is known
pub as_asked : {A E : Type 0} (read : Result A E) (Asks Work : A → Type 0) → IfOk read Asks
    → (asked : A) × (read ≡ Ok asked) × Work asked → (asked : A) × Asks asked × Work asked
as_asked read Asks Work asks done = (done.0, read_well read Asks done.0 asks done.1, done.2)

-- two things are so of what was done, and so a third
pub both_done : {A : Type 0} (result : Result A ProgramFault) (One Two Whole : Type 0)
    → OnOk result One → OnOk result Two → (One → Two → Whole) → OnOk result Whole
both_done (Ok value) One Two Whole one two make = make one two
both_done (Err why) One Two Whole one two make = tt

module _ {K W : Type 0} (stores : Keeping K) (Begins : K → Type 0)
    (Ends : K → Closing → Type 0) (contents : W → Option (List ℕ))
    (writer later : CountedWriter W) where
  -- what was asked for was shown
  pub ended_shown : (result : Result Ending ProgramFault) (read : Result Question ProgramFault)
      (prefix suffix : List ℕ) (Asks : Question → Type 0) (One : Type 0) (Whole : Ending → Type 0)
      → IfOk read Asks
      → (ShowsStore stores Begins Ends contents writer later prefix suffix Asks → One → Whole Done)
      → IfOk result (λ ending. (ending ≡ Done)
      × ShowsStore stores Begins Ends contents writer later prefix suffix
      (λ question. read ≡ Ok question) × One)
      → IfOk result Whole
  ended_shown (Ok ending) read prefix suffix Asks One Whole asks make done = subst Whole (sym done.0)
      (make (as_asked read Asks _ asks done.1) done.2)
  ended_shown (Err why) read prefix suffix Asks One Whole asks make done = tt

-- what was asked for failed: its words were not of their form, or the work did
pub failed_asked : {A W : Type 0} (writer later : CountedWriter W) (None : Type 0)
    (result : Result Ending ProgramFault) (read : Result A ProgramFault)
    (Forms Work Fails : ProgramFault → Type 0) → IfErr read Forms
    → ((why : ProgramFault) → Forms why → later ≡ writer → None → Fails why)
    → ((why : ProgramFault) → Work why → Fails why)
    → IfErr result (λ why. ((read ≡ Err why) × (later ≡ writer) × None) ⊎ Work why)
    → IfErr result Fails
failed_asked writer later None (Ok ending) read Forms Work Fails forms ill work failed = tt
failed_asked writer later None (Err why) read Forms Work Fails forms ill work failed = elim
    failed [
      | inl word ↦ ill why (read_ill read Forms why forms word.0) word.1 word.2
      | inr done ↦ work why done
    ]

module _ {M K R W : Type 0} (memory : Keeping M) (stores : Keeping K)
    (Begins : List ℕ → K → Type 0) (Ends : K → Closing → Type 0) (remaining : R → Option (List ℕ))
    (contents : W → Option (List ℕ)) (reader late_reader : CountedReader R)
    (writer later : CountedWriter W) (Holds : List ℕ → List ℕ → Type 0)
    (IsUnread : List ℕ → ℕ → ProgramFault → Type 0) (before after : ℕ)
    (IsMade : List ℕ → State → ℕ → Type 0) where
  -- a task ended as the one that it is
  pub ends_as : (ending : Ending) (task asked : Task) → task ≡ asked
      → EndsSo memory stores Begins Ends remaining contents reader late_reader writer later Holds
      IsUnread before after IsMade
      asked ending
      → EndsSo memory stores Begins Ends remaining contents reader late_reader writer later Holds
      IsUnread before after IsMade
      task ending
  ends_as ending task asked is = subst (λ t. EndsSo memory stores Begins Ends remaining contents
      reader late_reader writer later Holds IsUnread before after IsMade t ending) (sym is)

  -- an import ended so whose words were of their form
  pub imported_as : (asked : Task) (result : Result Ending ProgramFault)
      (read : Result ImportAsk ProgramFault)
      (file ring caller number csv : Bor (List ℕ)) (given : Option ℕ)
      → asked ≡ task.Import file ring caller number csv given → late_reader ≡ reader
      → IfOk read (AsksImport ring.now caller.now number.now)
      → IfOk result (λ ending. ImportsFile stores (Begins file.now) Ends contents writer later
      (Holds csv.now) (IsUnread csv.now) before after (λ ask. read ≡ Ok ask) given (EndsBy ending))
      → IfOk result (EndsSo memory stores Begins Ends remaining contents reader late_reader writer
      later Holds IsUnread before after IsMade asked)
  imported_as asked (Ok Done) read file ring caller number csv given is same asks done =
      ends_as Done asked (task.Import file ring caller number csv given) is (
        same,
        (
          done.0,
          done.1,
          read_well read (AsksImport ring.now caller.now number.now) done.0 asks done.2,
          done.3,
          done.4,
        ),
      )
  imported_as asked (Ok Refused) read file ring caller number csv given is same asks done =
      ends_as Refused asked (task.Import file ring caller number csv given) is (
        same,
        (
          done.0,
          done.1,
          read_well read (AsksImport ring.now caller.now number.now) done.0 asks done.2,
          done.3,
          done.4,
        ),
      )
  imported_as asked (Err why) read file ring caller number csv given is same asks done = tt

  -- and so it is refused
  pub refused_as : (task : Task) (ending asked : Ending) → ending ≡ asked
      → EndsSo memory stores Begins Ends remaining contents reader late_reader writer later Holds
      IsUnread before after IsMade
      task ending
      → EndsSo memory stores Begins Ends remaining contents reader late_reader writer later Holds
      IsUnread before after IsMade
      task asked
  refused_as task ending asked is = subst (EndsSo memory stores Begins Ends remaining contents reader
      late_reader writer later Holds IsUnread before after IsMade task) is

module _ {M K R W : Type 0} (memory : Keeping M) (stores : Keeping K)
    (Begins : List ℕ → K → Type 0) (Ends : K → Closing → Type 0) (remaining : R → Option (List ℕ))
    (contents : W → Option (List ℕ)) (reader late_reader : CountedReader R)
    (writer later : CountedWriter W) (Holds : List ℕ → List ℕ → Type 0)
    (IsUnread : List ℕ → ℕ → ProgramFault → Type 0) (before after : ℕ) where
  -- a task failed as the one that it is
  pub fails_as : (Refuses : List ℕ → ProgramFault → Type 0)
      (IsUnmade : List ℕ → State → ℕ → ProgramFault → Type 0) (why : ProgramFault)
      (task asked : Task) → task ≡ asked
      → FailsSo memory stores Begins Ends remaining contents reader late_reader writer later Holds
      IsUnread before after Refuses IsUnmade asked why
      → FailsSo memory stores Begins Ends remaining contents reader late_reader writer later Holds
      IsUnread before after Refuses IsUnmade task why
  fails_as Refuses IsUnmade why task asked is = subst (λ t. FailsSo memory stores Begins Ends
      remaining contents reader late_reader writer later Holds IsUnread before after Refuses IsUnmade t why)
      (sym is)

-- a task failed that asks to be shown something
pub shown_failed : {M K R W : Type 0} (memory : Keeping M) (stores : Keeping K)
    (Begins : List ℕ → K → Type 0) (Ends : K → Closing → Type 0) (remaining : R → Option (List ℕ))
    (contents : W → Option (List ℕ)) (reader : CountedReader R) (writer later : CountedWriter W)
    (Holds : List ℕ → List ℕ → Type 0) (IsUnread : List ℕ → ℕ → ProgramFault → Type 0)
    (before after : ℕ) (Refuses : List ℕ → ProgramFault → Type 0)
    (IsUnmade : List ℕ → State → ℕ → ProgramFault → Type 0) (t : Task) → IsShowing t
    → (why : ProgramFault)
    → FailsToShowTask stores Begins Ends contents writer later before after Refuses t why
    → FailsSo memory stores Begins Ends remaining contents reader reader writer later Holds IsUnread
    before after Refuses IsUnmade t why
shown_failed memory stores Begins Ends remaining contents reader writer later Holds IsUnread before
    after Refuses IsUnmade t showing why (inl words) = inl (words.0, refl, words.1, words.2)
shown_failed memory stores Begins Ends remaining contents reader writer later Holds IsUnread before
    after Refuses IsUnmade (task.Table file ring) showing why (inr work) = inr (refl, work.0, work.1)
shown_failed memory stores Begins Ends remaining contents reader writer later Holds IsUnread before
    after Refuses IsUnmade (task.Show file what) showing why (inr work) = inr (refl, work.0, work.1)
shown_failed memory stores Begins Ends remaining contents reader writer later Holds IsUnread before
    after Refuses IsUnmade (task.Nodes file ring account container object names) showing why
    (inr work) = inr (refl, work.0, work.1)
shown_failed memory stores Begins Ends remaining contents reader writer later Holds IsUnread before
    after Refuses IsUnmade (task.Export file ring version written) showing why (inr work) =
    inr (refl, work.0, work.1)
shown_failed memory stores Begins Ends remaining contents reader writer later Holds IsUnread before
    after Refuses IsUnmade (task.Log file from lines) showing why (inr work) = absurd showing
shown_failed memory stores Begins Ends remaining contents reader writer later Holds IsUnread before
    after Refuses IsUnmade (task.Run file) showing why (inr work) = absurd showing
shown_failed memory stores Begins Ends remaining contents reader writer later Holds IsUnread before
    after Refuses IsUnmade (task.Serve file port count given names) showing why (inr work) =
    absurd showing
shown_failed memory stores Begins Ends remaining contents reader writer later Holds IsUnread before
    after Refuses IsUnmade (task.Service file port hosts hour_ok names) showing why (inr work) =
    absurd showing
shown_failed memory stores Begins Ends remaining contents reader writer later Holds IsUnread before
    after Refuses IsUnmade (task.Loop file input given names) showing why (inr work) = absurd showing
shown_failed memory stores Begins Ends remaining contents reader writer later Holds IsUnread before
    after Refuses IsUnmade (task.Import file ring caller number csv given) showing why (inr work) =
    absurd showing
shown_failed memory stores Begins Ends remaining contents reader writer later Holds IsUnread before
    after Refuses IsUnmade (task.Renew file fresh) showing why (inr work) = absurd showing
shown_failed memory stores Begins Ends remaining contents reader writer later Holds IsUnread before
    after Refuses IsUnmade (task.Found fresh texts min_hours given from) showing why (inr work) =
    absurd showing
shown_failed memory stores Begins Ends remaining contents reader writer later Holds IsUnread before
    after Refuses IsUnmade task.Version showing why (inr work) = absurd showing
