-- What services and other tasks tell, and over which keepers a service was served.
use Rattle.std.proofs.Common.{◌≡◌, ◌≤◌, ◌⊎◌, ◌++◌, ◌∷◌, [], Bool, List, Option, Result, Ok, Err}
use Rattle.std.proofs.Common.{arith, false, inl, inr, refl, subst, sym, true, ℕ}
use Rattle.std.specs.Prelude.{OnOk}
use Rattle.byte_streams.specs.declared.counted.CountedReader.{CountedReader}
use Rattle.byte_streams.specs.declared.counted.CountedWriter.{CountedWriter}
use Rattle.builder.specs.Step.{State}
use Rattle.command_line.specs.declared.task.Task.{Task}
use Rattle.command_line.specs.declared.task.Task.TheVariants as task
use Rattle.ring_book.specs.Book.{Keeping}
use Rattle.program_stores.specs.Stores.{Closing}
use Rattle.programs.specs.Faults.{GetsText, GetsTexts}
use Rattle.programs.specs.Inner.Tellings.{EndsTelling, FailsTelling, IsTelling}
use Rattle.programs.specs.Performed.{FailsSo}
use Rattle.programs.specs.Service.{NeverServes, ServesPrograms, fault_status}
use Rattle.programs.specs.Service.{is_lasting, service_status}
use Rattle.program_stores.specs.declared.faults.ProgramFault.{ProgramFault}
use Rattle.programs.specs.declared.service.ServiceAsk.{ServiceAsk}
use Rattle.http_sockets.specs.declared.fault.ServiceEnd.{ServiceEnd}

-- one text
pub one_text : {E : Type 0} (contents : E → Option (List ℕ)) (old new : CountedWriter E)
    (text : List ℕ) → GetsText contents old new text → GetsTexts contents old new (text ∷ [])
one_text contents old new text gets = (new, gets, refl)

-- one more text behind others
pub texts_then : {E : Type 0} (contents : E → Option (List ℕ)) (old mid new : CountedWriter E)
    (texts : List (List ℕ)) (text : List ℕ) → GetsTexts contents old mid texts
    → GetsText contents mid new text → GetsTexts contents old new (texts ++ text ∷ [])
texts_then contents old mid new [] text same gets =
    (new, subst (λ writer. GetsText contents writer new text) same gets, refl)
texts_then contents old mid new (first ∷ texts) text all gets =
    (all.0, all.1, texts_then contents all.0 mid new texts text all.2 gets)

-- one more text behind others, and then further ones
pub texts_and : {E : Type 0} (contents : E → Option (List ℕ)) (old mid next new : CountedWriter E)
    (texts : List (List ℕ)) (text : List ℕ) (later : List (List ℕ)) → GetsTexts contents old mid texts
    → GetsText contents mid next text → GetsTexts contents next new later
    → GetsTexts contents old new (texts ++ text ∷ later)
texts_and contents old mid next new [] text later same gets rest =
    (next, subst (λ writer. GetsText contents writer next text) same gets, rest)
texts_and contents old mid next new (first ∷ texts) text later all gets rest =
    (all.0, all.1, texts_and contents all.0 mid next new texts text later all.2 gets rest)

-- what holds whatever a result is
pub on_any : {A E : Type 0} (result : Result A E) (fact : Type 0) → fact → OnOk result fact
on_any (Ok value) fact holds = holds
on_any (Err why) fact holds = tt

-- the statuses that a fault ends with
one_or_three : (lasting : Bool) → (service_status lasting ≡ 1) ⊎ (service_status lasting ≡ 3)
one_or_three true = inr refl
one_or_three false = inl refl

pub fault_statuses : (t : Task) (why : ProgramFault)
    → (fault_status t why ≡ 1) ⊎ (fault_status t why ≡ 3)
fault_statuses (task.Service file port hosts hour_ok names) why = one_or_three (is_lasting why)
fault_statuses (task.Run file) why = inl refl
fault_statuses (task.Serve file port count given names) why = inl refl
fault_statuses (task.Loop file input given names) why = inl refl
fault_statuses (task.Import file ring caller number csv given) why = inl refl
fault_statuses (task.Table file ring) why = inl refl
fault_statuses (task.Show file what) why = inl refl
fault_statuses (task.Log file from lines) why = inl refl
fault_statuses (task.Nodes file ring account container object names) why = inl refl
fault_statuses (task.Export file ring version written) why = inl refl
fault_statuses (task.Renew file fresh) why = inl refl
fault_statuses (task.Found fresh texts min_hours given from) why = inl refl
fault_statuses task.Version why = inl refl

-- what a status tells of two endings
module _ (status : ℕ) (Done Fails : Type 0) where
  -- how a program ended, with its status
  abbrev pub Ended : Type 0
  Ended = ((status ≡ 0) × Done) ⊎ (((status ≡ 1) ⊎ (status ≡ 3)) × Fails)

  pub done_at : Ended → status ≡ 0 → Done
  done_at (inl done) zero = done.1
  done_at (inr (inl one, fails)) zero = absurd (omega (arith, zero, one))
  done_at (inr (inr three, fails)) zero = absurd (omega (arith, zero, three))

  pub failed_at : Ended → (status ≡ 1) ⊎ (status ≡ 3) → Fails
  failed_at (inr failed) other = failed.1
  failed_at (inl (zero, done)) (inl one) = absurd (omega (arith, zero, one))
  failed_at (inl (zero, done)) (inr three) = absurd (omega (arith, zero, three))

  pub never_two : Ended → status ≡ 2 → ⊥
  never_two (inl (zero, done)) two = omega (arith, zero, two)
  never_two (inr (inl one, fails)) two = omega (arith, one, two)
  never_two (inr (inr three, fails)) two = omega (arith, three, two)

  pub at_most_three : Ended → status ≤ 3
  at_most_three (inl (zero, done)) = omega (arith, zero)
  at_most_three (inr (inl one, fails)) = omega (arith, one)
  at_most_three (inr (inr three, fails)) = omega (arith, three)

-- A store's keeper begins so, and another one, which was made of it, is left so.
module _ {K C : Type 0} (g : Keeping K) (tells : C → ℕ → C → Type 0) (ask : ServiceAsk) (clock : C)
    (Begins Ends : K → Type 0) (kept left : K) (is : Begins kept) (ends : Ends left) where
  never_kept : (shuts : ℕ → Type 0) (why : ProgramFault)
      → NeverServes g tells ask clock (λ k. k ≡ kept) (λ k. k ≡ left) shuts why
      → NeverServes g tells ask clock Begins Ends shuts why
  never_kept shuts why never = record {
    keeper = never.keeper;
    later = never.later;
    opened = subst Begins (sym never.opened) is;
    asked = never.asked;
    failed = never.failed;
    left = subst Ends (sym never.left) ends;
  }

  module _ {D S : Type 0} (remaining contents : S → Option (List ℕ))
      (gives : D → S → S → D → Type 0) (fails : D → D → Type 0) (opens : ℕ → D → Type 0) where
    serves_kept : (end : ServiceEnd)
        → ServesPrograms g tells ask clock (λ k. k ≡ kept) (λ k. k ≡ left) remaining contents gives
        fails opens end
        → ServesPrograms g tells ask clock Begins Ends remaining contents gives fails opens end
    serves_kept end s = record {
      keeper = s.keeper;
      first = s.first;
      last = s.last;
      opened = subst Begins (sym s.opened) is;
      asked = s.asked;
      judged = s.judged;
      full = s.full;
      door = s.door;
      later = s.later;
      port = s.port;
      served = s.served;
      safe = s.safe;
      left = subst Ends (sym s.left) ends;
    }

    -- a service that ended over the keeper of a store that was closed ended over that store
    pub telling_kept : {E : Type 0} (shuts : ℕ → Type 0) (told : E → Option (List ℕ))
        (errors late : CountedWriter E) (why : ProgramFault)
        → EndsTelling g tells ask clock (λ k. k ≡ kept) (λ k. k ≡ left) remaining contents gives fails
        opens shuts told errors late why
        → EndsTelling g tells ask clock Begins Ends remaining contents gives fails opens shuts told
        errors late why
    unfolding never_kept serves_kept
    telling_kept shuts told errors late why (inl never, gets) = (inl (never_kept shuts why never), gets)
    telling_kept shuts told errors late why (inr (end, because, served), gets) =
        (inr (end, because, serves_kept end served), gets)

module _ {M K R W E : Type 0} (memory : Keeping M) (stores : Keeping K)
    (Begins : List ℕ → K → Type 0) (Ends : K → Closing → Type 0) (remaining : R → Option (List ℕ))
    (contents : W → Option (List ℕ)) (reader late_reader : CountedReader R)
    (writer later : CountedWriter W) (Holds : List ℕ → List ℕ → Type 0)
    (IsUnread : List ℕ → ℕ → ProgramFault → Type 0) (before after : ℕ)
    (Refuses : List ℕ → ProgramFault → Type 0)
    (IsUnmade : List ℕ → State → ℕ → ProgramFault → Type 0) (told : E → Option (List ℕ))
    (errors : CountedWriter E) where
  -- a task that tells nothing on its way failed, and told nothing
  pub tells_nothing : (t : Task) → (IsTelling t → ⊥) → (why : ProgramFault)
      → FailsSo memory stores Begins Ends remaining contents reader late_reader writer later Holds
      IsUnread before after Refuses IsUnmade t why
      → FailsTelling memory stores Begins Ends remaining contents reader late_reader writer later Holds
      IsUnread before after Refuses IsUnmade told errors errors t why
  tells_nothing t none why (inl words) = (inl words, refl)
  tells_nothing (task.Run file) none why (inr work) = (inr work, refl)
  tells_nothing (task.Serve file port count given names) none why (inr work) = (inr work, refl)
  tells_nothing (task.Service file port hosts hour_ok names) none why (inr work) = absurd (none tt)
  tells_nothing (task.Loop file input given names) none why (inr work) = (inr work, refl)
  tells_nothing (task.Import file ring caller number csv given) none why (inr work) = (inr work, refl)
  tells_nothing (task.Table file ring) none why (inr work) = (inr work, refl)
  tells_nothing (task.Show file what) none why (inr work) = (inr work, refl)
  tells_nothing (task.Log file from lines) none why (inr work) = (inr work, refl)
  tells_nothing (task.Nodes file ring account container object names) none why (inr work) =
      (inr work, refl)
  tells_nothing (task.Export file ring version written) none why (inr work) = (inr work, refl)
  tells_nothing (task.Renew file fresh) none why (inr work) = (inr work, refl)
  tells_nothing (task.Found fresh texts min_hours given from) none why (inr work) = absurd (none tt)
  tells_nothing task.Version none why (inr work) = (inr work, refl)
