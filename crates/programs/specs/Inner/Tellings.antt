-- What is told on the third stream on the way of a program.
use Rattle.std.specs.Prelude.{◌≡◌, ◌⊎◌, ⊤, ℕ, List, Option, true}
use Rattle.byte_streams.specs.declared.counted.CountedReader.{CountedReader}
use Rattle.byte_streams.specs.declared.counted.CountedWriter.{CountedWriter}
use Rattle.builder.specs.Step.{State}
use Rattle.command_line.specs.declared.task.Task.{Task}
use Rattle.command_line.specs.declared.task.Task.TheVariants as task
use Rattle.ring_book.specs.Book.{Keeping}
use Rattle.program_stores.specs.Stores.{Closing}
use Rattle.programs.specs.Faults.{GetsText, GetsTexts}
use Rattle.programs.specs.Left.{Closes, FailsToMake, GivesNoText, GivesText, MakesStore}
use Rattle.programs.specs.Left.{RefusesToOpen}
use Rattle.programs.specs.Performed.{EndsSo, FailsAt, FailsSo, IsTaskDone, task_lines}
use Rattle.programs.specs.Service.{EndsService, FailsToBegin, IsJudged, StopsService, begin_lines}
use Rattle.programs.specs.Service.{end_lines, service_lines, serving_line}
use Rattle.program_stores.specs.declared.faults.ProgramFault.{ProgramFault}
use Rattle.programs.specs.declared.performing.Ending.{Ending}
use Rattle.programs.specs.declared.service.ServiceAsk.{ServiceAsk}
use Rattle.program_stores.specs.declared.stores.Stores as store_calls

-- ---- a service

-- A service was asked for, and the clock is this.
module _ {K C : Type 0} (g : Keeping K) (tells : C → ℕ → C → Type 0) (ask : ServiceAsk) (clock : C)
  where
    -- A service didn't begin, for this fault, and what it says of that was told on a stream.
    abbrev pub TellsNoBegin : {E : Type 0} → (ℕ → Type 0) → K → K → (E → Option (List ℕ))
        → CountedWriter E → CountedWriter E → ProgramFault → Type 0
    TellsNoBegin shuts keeper later told errors late why =
        (failed : FailsToBegin g tells ask clock shuts keeper later why)
        × GetsTexts told errors late (begin_lines g tells ask clock shuts keeper later why failed)

    -- A service begins over a keeper that was asked, the two are these now, and the line that tells
    -- so was told on a stream.
    abbrev pub BeginsTelling : {E : Type 0} → K → K → C → (E → Option (List ℕ)) → CountedWriter E
        → CountedWriter E → Type 0
    BeginsTelling keeper later late_clock told errors late =
        (judged : IsJudged g tells ask clock keeper later late_clock true)
        × GetsText told errors late (serving_line ask judged.figures)

    module _ (Begins Ends : K → Type 0) {D S : Type 0} (remaining contents : S → Option (List ℕ))
        (gives : D → S → S → D → Type 0) (fails : D → D → Type 0) (opens : ℕ → D → Type 0) where
      -- A service ended, and its lines were told on a stream.
      abbrev pub EndsTelling : {E : Type 0} → (ℕ → Type 0) → (E → Option (List ℕ))
          → CountedWriter E → CountedWriter E → ProgramFault → Type 0
      EndsTelling shuts told errors late why =
          (ended : EndsService g tells ask clock Begins Ends remaining contents gives fails opens shuts
          why)
          × GetsTexts told errors late (end_lines g tells ask clock Begins Ends remaining contents gives
          fails opens shuts why ended)

-- Stores are closed so besides.
module _ {K C : Type 0} (g : Keeping K) (tells : C → ℕ → C → Type 0) (Begins : K → Type 0)
    (Ends : K → Closing → Type 0) (ask : ServiceAsk) (clock : C) {D S : Type 0}
    (remaining contents : S → Option (List ℕ)) (gives : D → S → S → D → Type 0)
    (fails : D → D → Type 0) (opens : ℕ → D → Type 0) (shuts : ℕ → Type 0)
    (Refuses : ProgramFault → Type 0) where
  -- A service stopped, and its lines were told on a stream.
  abbrev pub StopsTelling : {E : Type 0} → (E → Option (List ℕ)) → CountedWriter E → CountedWriter E
      → ProgramFault → Type 0
  StopsTelling told errors late why =
      (stopped : StopsService g tells Begins Ends ask clock remaining contents gives fails opens shuts
      Refuses why)
      × GetsTexts told errors late (service_lines g tells Begins Ends ask clock remaining contents gives
      fails opens shuts Refuses why stopped)

-- ---- a task

-- The task tells lines on its way: it asks for a service, or for founding a store.
abbrev pub IsTelling : Task → Type 0
IsTelling (task.Service file port hosts hour_ok names) = ⊤
IsTelling (task.Found fresh texts min_hours given from) = ⊤
IsTelling _ = ⊥

-- The task is work over a store or a stream: it shows nothing that a store is asked for, imports no
-- table, and tells no lines on its way.
abbrev pub IsWork : Task → Type 0
IsWork (task.Run file) = ⊤
IsWork (task.Serve file port count given names) = ⊤
IsWork (task.Loop file input given names) = ⊤
IsWork (task.Log file from lines) = ⊤
IsWork (task.Renew file fresh) = ⊤
IsWork task.Version = ⊤
IsWork _ = ⊥

-- A task failed, and its lines were told on a stream.
abbrev pub FailsTelling : {M K R W E : Type 0} (memory : Keeping M) (stores : Keeping K)
    (Begins : List ℕ → K → Type 0) (Ends : K → Closing → Type 0) (remaining : R → Option (List ℕ))
    (contents : W → Option (List ℕ)) (reader late_reader : CountedReader R)
    (writer later : CountedWriter W) (Holds : List ℕ → List ℕ → Type 0)
    (IsUnread : List ℕ → ℕ → ProgramFault → Type 0) (before after : ℕ)
    (Refuses : List ℕ → ProgramFault → Type 0)
    (IsUnmade : List ℕ → State → ℕ → ProgramFault → Type 0) → (E → Option (List ℕ))
    → CountedWriter E → CountedWriter E → Task → ProgramFault → Type 0
FailsTelling memory stores Begins Ends remaining contents reader late_reader writer later Holds IsUnread
    before after Refuses IsUnmade told errors late t why =
    (failed : FailsSo memory stores Begins Ends remaining contents reader late_reader writer later Holds
    IsUnread before after Refuses IsUnmade t why)
    × GetsTexts told errors late (task_lines memory stores Begins Ends remaining contents reader
    late_reader writer later Holds IsUnread before after Refuses IsUnmade t why failed)

-- A task was done, and ended with status 0, or it failed.
abbrev pub EndsAt : {M K R W E : Type 0} (memory : Keeping M) (stores : Keeping K)
    (Begins : List ℕ → K → Type 0) (Ends : K → Closing → Type 0)
    (Holds : List ℕ → List ℕ → Type 0) (IsUnread : List ℕ → ℕ → ProgramFault → Type 0)
    (before after : ℕ) (IsMade : List ℕ → State → ℕ → Type 0) (remaining : R → Option (List ℕ))
    (contents : W → Option (List ℕ)) (told : E → Option (List ℕ))
    (reader late_reader : CountedReader R) (writer later : CountedWriter W)
    (errors late_errors : CountedWriter E) (Refuses : List ℕ → ProgramFault → Type 0)
    (IsUnmade : List ℕ → State → ℕ → ProgramFault → Type 0) → Task → ℕ → Type 0
EndsAt memory stores Begins Ends Holds IsUnread before after IsMade remaining contents told reader
    late_reader writer later errors late_errors Refuses IsUnmade t status =
    ((status ≡ 0) × IsTaskDone memory stores Begins Ends Holds IsUnread before after IsMade remaining
    contents told reader late_reader writer later errors late_errors t)
    ⊎ (((status ≡ 1) ⊎ (status ≡ 3)) × FailsAt memory stores Begins Ends Holds IsUnread before after
    IsMade remaining contents told reader late_reader writer later errors late_errors Refuses IsUnmade t
    status)

-- Stores are these, before and after, and of what their calls give back programs keep the answer.
module _ {S K U C N V F T M R W : Type 0} (g : store_calls.Ghosts S K U C N V F T)
    (kept : Keeping K) (memory : Keeping M) (before after : S) (remaining : R → Option (List ℕ))
    (contents : W → Option (List ℕ)) (reader late_reader : CountedReader R)
    (writer later : CountedWriter W) where
  -- A task had no fault over these stores and ended so.
  abbrev pub EndsOver : Task → Ending → Type 0
  EndsOver = EndsSo memory kept g.begins (Closes g) remaining contents reader late_reader writer
      later (GivesText g) (GivesNoText g) (g.openings before) (g.openings after) (MakesStore g)

  -- This fault came of a task over them.
  abbrev pub FailsOver : Task → ProgramFault → Type 0
  FailsOver = FailsSo memory kept g.begins (Closes g) remaining contents reader late_reader writer
      later (GivesText g) (GivesNoText g) (g.openings before) (g.openings after) (RefusesToOpen g)
      (FailsToMake g)

  -- So it did, and these lines were told on a third stream.
  abbrev pub FailsTellingOver : {E : Type 0} → (E → Option (List ℕ)) → CountedWriter E
      → CountedWriter E → Task → ProgramFault → Type 0
  FailsTellingOver = FailsTelling memory kept g.begins (Closes g) remaining contents reader late_reader
      writer later (GivesText g) (GivesNoText g) (g.openings before) (g.openings after)
      (RefusesToOpen g) (FailsToMake g)

  -- A third stream tells of faults, before and after.
  module _ {E : Type 0} (told : E → Option (List ℕ)) (errors late_errors : CountedWriter E) where
    -- A task ended with this status over these stores.
    abbrev pub EndsAtOver : Task → ℕ → Type 0
    EndsAtOver = EndsAt memory kept g.begins (Closes g) (GivesText g) (GivesNoText g)
        (g.openings before) (g.openings after) (MakesStore g) remaining contents told reader late_reader
        writer later errors late_errors (RefusesToOpen g) (FailsToMake g)
