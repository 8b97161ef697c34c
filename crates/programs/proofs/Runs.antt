-- What was done over a keeper of which less is known, and over a new one.
use Rattle.std.proofs.Common.{◌≡◌, List, Option, Result, Ok, Err, ℕ, subst, sym}
use Rattle.std.specs.Prelude.{IfErr, IfOk, MatchResult, OnOk}
use Rattle.byte_streams.specs.declared.counted.CountedReader.{CountedReader}
use Rattle.byte_streams.specs.declared.counted.CountedWriter.{CountedWriter}
use Rattle.byte_streams.specs.declared.fault.StreamFault.{StreamFault}
use Rattle.builder.specs.declared.machine.RingMachine.{RingMachine}
use Rattle.ring_reads.specs.Holding.{Holding}
use Rattle.request_book.specs.Book.{Parts}
use Rattle.ring_messages.specs.declared.told.Told.{Told}
use Rattle.ring_words.specs.declared.device.Row.{Row}
use Rattle.programs.specs.Begun.{IsAny, IsBegun, IsNew}
use Rattle.programs.specs.Importing.{Imports}
use Rattle.programs.specs.Running.{AnswersLines, StopsLines}
use Rattle.programs.specs.Showing.{IsAsked}
use Rattle.programs.specs.declared.importing.ImportAsk.{ImportAsk}
use Rattle.ring_book.specs.Book.{Keeping}

-- what three facts on a result make where it is well
pub well : {A E : Type 0} (result : Result A E) (Served : A → Type 0) (none flushed : Type 0)
    (Caused Kept : E → Type 0) (whole : Type 0)
    → ((value : A) → Served value → none → flushed → whole) → IfOk result Served
    → MatchResult result (λ _. none) Caused → MatchResult result (λ _. flushed) Kept
    → OnOk result whole
well (Ok value) Served none flushed Caused Kept whole make served caused kept =
    make value served caused kept
well (Err error) Served none flushed Caused Kept whole make served caused kept = tt

-- and where it is a fault
pub ill : {A E : Type 0} (result : Result A E) (Stopped : E → Type 0) (none flushed : Type 0)
    (Caused Kept Whole : E → Type 0)
    → ((error : E) → Stopped error → Caused error → Kept error → Whole error)
    → IfErr result Stopped → MatchResult result (λ _. none) Caused
    → MatchResult result (λ _. flushed) Kept → IfErr result Whole
ill (Ok value) Stopped none flushed Caused Kept Whole make stopped caused kept = tt
ill (Err error) Stopped none flushed Caused Kept Whole make stopped caused kept =
    make error stopped caused kept

-- a fact on a result that is known to be well, and to be ill
pub at_ok : {A E : Type 0} (result : Result A E) (value : A) (whole : Type 0) → result ≡ Ok value
    → OnOk result whole → whole
at_ok result value whole is holds = subst (λ r. OnOk r whole) is holds

pub at_value : {A E : Type 0} (result : Result A E) (value : A) (Whole : A → Type 0)
    → result ≡ Ok value → IfOk result Whole → Whole value
at_value result value Whole is holds = subst (λ r. IfOk r Whole) is holds

pub at_err : {A E : Type 0} (result : Result A E) (why : E) (Whole : E → Type 0)
    → result ≡ Err why → IfErr result Whole → Whole why
at_err result why Whole is holds = subst (λ r. IfErr r Whole) is holds

module _ {K : Type 0} (g : Keeping K) (Begins Early : K → Type 0)
    (weaken : (keeper : K) → Begins keeper → Early keeper) where
  -- a book over a keeper that begins so is one over a keeper of which less is known
  pub begun : (book : Parts RingMachine K) → IsBegun Begins book → IsBegun Early book
  begun book is = record {
    full = is.full;
    keeper = weaken book.keeper is.keeper;
  }

-- and so is what was done over one, of whose end less is known
module _ {K : Type 0} (g : Keeping K) (Begins Early Ends Late : K → Type 0)
    (weaken : (keeper : K) → Begins keeper → Early keeper)
    (leave : (keeper : K) → Ends keeper → Late keeper) where
  early : (book : Parts RingMachine K) → IsBegun Begins book → IsBegun Early book
  early = begun g Begins Early weaken

  module _ {R W : Type 0} (remaining : R → Option (List ℕ)) (contents : W → Option (List ℕ))
      (reader late_reader : CountedReader R) (writer late_writer : CountedWriter W) where
    pub answers : AnswersLines g Begins Ends remaining contents reader late_reader writer late_writer
        → AnswersLines g Early Late remaining contents reader late_reader writer late_writer
    answers all = let run = all.0.1 in (
      (all.0.0, (run.0, run.1, early run.0 run.2, leave run.1.keeper run.3, run.4, run.5)),
      all.1,
      all.2,
    )

    pub stops : (why : StreamFault)
        → StopsLines g Begins Ends remaining contents reader late_reader writer late_writer why
        → StopsLines g Early Late remaining contents reader late_reader writer late_writer why
    stops why all = let run = all.0 in
        ((run.0, run.1, early run.0 run.2, leave run.1.keeper run.3, run.4, run.5), all.1, all.2)

  pub asked : (Tells : Holding → Type 0) → IsAsked g Begins Ends Tells → IsAsked g Early Late Tells
  asked Tells a = record {
    keeper = a.keeper;
    later = a.later;
    clock = a.clock;
    opened = weaken a.keeper a.opened;
    left = leave a.later a.left;
    stays_sound = a.stays_sound;
    stays = a.stays;
    tells = a.tells;
  }

  pub imports : (ask : ImportAsk) (rows : List Row) (hour : ℕ) (t : Told)
      → Imports g Begins Ends ask rows hour t → Imports g Early Late ask rows hour t
  imports ask rows hour t i = record {
    book = i.book;
    later = i.later;
    opened = early i.book i.opened;
    left = leave i.later.keeper i.left;
    answer = i.answer;
    made = i.made;
    told_is = i.told_is;
    proper = i.proper;
  }

-- over a keeper that holds nothing
module _ {K : Type 0} (g : Keeping K) (kept : K) (is : IsNew g kept) (Ends : K → Type 0) where
  same_new : (keeper : K) → keeper ≡ kept → IsNew g keeper
  same_new keeper same = subst (IsNew g) (sym same) is

  module _ {R W : Type 0} (remaining : R → Option (List ℕ)) (contents : W → Option (List ℕ))
      (reader late_reader : CountedReader R) (writer late_writer : CountedWriter W) where
    pub answers_new : AnswersLines g (λ k. k ≡ kept) Ends remaining contents reader late_reader writer
        late_writer
        → AnswersLines g (IsNew g) IsAny remaining contents reader late_reader writer late_writer
    answers_new all = answers g (λ k. k ≡ kept) (IsNew g) Ends IsAny same_new
        (λ keeper left. tt) remaining contents reader
        late_reader writer late_writer all

    pub stops_new : (why : StreamFault)
        → StopsLines g (λ k. k ≡ kept) Ends remaining contents reader late_reader writer late_writer why
        → StopsLines g (IsNew g) IsAny remaining contents reader late_reader writer late_writer why
    stops_new why all = stops g (λ k. k ≡ kept) (IsNew g) Ends IsAny same_new
        (λ keeper left. tt) remaining contents reader
        late_reader writer late_writer why all
