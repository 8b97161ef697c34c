-- What a program does that words ask for.
use Rattle.std.specs.Prelude.{◌≡◌, ◌≢◌, ◌⊎◌, ◌++◌, ◌∷◌, ℕ, List, [], Option, None, Some, map}
use mathlib.Core.Logic.{inl, inr}
use Rattle.std.specs.Borrow.{Bor}
use Rattle.byte_streams.specs.declared.counted.CountedReader.{CountedReader}
use Rattle.byte_streams.specs.declared.counted.CountedWriter.{CountedWriter}
use Rattle.byte_streams.specs.declared.fault.StreamFault.{StreamFault}
use Rattle.command_line.specs.Tasks.{AskFor}
use Rattle.command_line.specs.declared.task.Task.{Task}
use Rattle.command_line.specs.declared.task.Task.TheVariants as task
use Rattle.program_stores.specs.Faults.{stream_fault}
use Rattle.programs.specs.Faults.{GetsText, GetsTexts, fault_line}
use Rattle.programs.specs.Meanings.{meaning_texts}
use Rattle.programs.specs.Importing.{AnswersImport, AsksImport, FailsToImport}
use Rattle.program_stores.specs.Stores.{Closing}
use Rattle.programs.specs.Begun.{IsAny, IsClosed, IsClosedWhole, IsNew, OpensNone}
use Rattle.programs.specs.Begun.{OpensOne}
use Rattle.programs.specs.Begun.{OpensTwo}
use Rattle.builder.specs.Step.{State}
use Rattle.programs.specs.Left.{Closes, FailsToMake, GivesNoText, GivesText, MakesStore}
use Rattle.programs.specs.Left.{RefusesToOpen}
use Rattle.programs.specs.Founding.{FailsToFound, Founds, IsThere, founding_lines}
use Rattle.programs.specs.Logging.{FailsToLogStore, LogsStore}
use Rattle.programs.specs.Renewing.{FailsToRenew, Renews}
use Rattle.programs.specs.Running.{AnswersLines, FailsLines, StopsLines}
use Rattle.programs.specs.Service.{StopsOnMachine, fault_status, machine_lines}
use Rattle.programs.specs.Serving.{FailsToLoopInput, FailsToServePort, LoopsInput}
use Rattle.programs.specs.Serving.{ServesPort}
use Rattle.programs.specs.Showing.{AsksShown, FailsToShow, IsFormFault, HasBadWord}
use Rattle.programs.specs.Showing.{IsPathless, ShowsRead}
use Rattle.programs.specs.Version.{FailsToTellVersion, TellsVersion}
use Rattle.program_stores.specs.declared.faults.ProgramFault.{ProgramFault}
use Rattle.program_stores.specs.declared.faults.ProgramFault.TheVariants as fault
use Rattle.programs.specs.declared.importing.ImportAsk.{ImportAsk}
use Rattle.programs.specs.declared.performing.Ending.{Ending}
use Rattle.programs.specs.declared.performing.Ending.TheVariants.{Done, Refused}
use Rattle.program_stores.specs.declared.stores.Stores as store_calls
use Rattle.ring_reads.specs.declared.reads.Question.{Question}
use Rattle.ring_book.specs.Book.{Keeping}

-- Keepers of stores are these, begin so, and end so with what closing them answers, and the writer is
-- this, before and after.
module _ {K W : Type 0} (stores : Keeping K) (Begins : K → Type 0) (Ends : K → Closing → Type 0)
    (contents : W → Option (List ℕ)) (writer later : CountedWriter W) where
  -- What is asked for was shown of a store, which was closed.
  abbrev pub ShowsStore : List ℕ → List ℕ → (Question → Type 0) → Type 0
  ShowsStore prefix suffix Asks = (question : Question) × Asks question
      × ShowsRead stores Begins (IsClosedWhole stores Ends) contents writer later prefix suffix question

  -- This fault came of it, or of opening the store.
  abbrev pub FailsToShowStore : (ProgramFault → Type 0) → List ℕ → List ℕ → (Question → Type 0)
      → ProgramFault → Type 0
  FailsToShowStore Refuses prefix suffix Asks why = (question : Question) × Asks question
      × FailsToShow stores Begins Ends contents writer later prefix suffix Refuses question why

  -- A file may hold such a text, or give no text of at most so many bytes for such a fault, and of
  -- stores this many were opened or made before and after.
  module _ (Holds : List ℕ → Type 0) (IsUnread : ℕ → ProgramFault → Type 0) (before after : ℕ) where
    -- The table in a CSV file was imported as one request, at the hour that was given or that of the
    -- machine, into a store that was closed, and this is so of the status that was written.
    abbrev pub ImportsFile : (ImportAsk → Type 0) → Option ℕ → (ℕ → Type 0) → Type 0
    ImportsFile Asks given IsStatus = (ask : ImportAsk) × (status : ℕ) × Asks ask × IsStatus status
        × AnswersImport stores Begins (IsClosed Ends) Holds IsUnread before after contents writer
        later ask given status

    -- This fault came of it.
    abbrev pub FailsToImportFile : (ProgramFault → Type 0) → (ImportAsk → Type 0) → Option ℕ
        → ProgramFault → Type 0
    FailsToImportFile Refuses Asks given why = (ask : ImportAsk) × Asks ask
        × FailsToImport stores Begins Ends Refuses Holds IsUnread before after contents writer later
        ask given why

-- The status of an import ends it so: 200 where it was done.
abbrev pub EndsBy : Ending → ℕ → Type 0
EndsBy Done status = status ≡ 200
EndsBy Refused status = status ≢ 200

-- The store that is given was opened, and no other; none where none is given.
abbrev pub OpensGiven : ℕ → ℕ → Option (Bor (List ℕ)) → Type 0
OpensGiven before after None = OpensNone before after
OpensGiven before after (Some file) = OpensOne before after

-- A store was made, and the one that is given was opened, if one is.
abbrev pub OpensFounded : ℕ → ℕ → Option (Bor (List ℕ)) → Type 0
OpensFounded before after None = OpensOne before after
OpensFounded before after (Some file) = OpensTwo before after

-- texts that words have
abbrev pub texts_given : List (Bor (List ℕ)) → List (List ℕ)
texts_given texts = map (λ text. text.now) texts

-- Keepers over memory and of stores are these. That of a store of a name begins so, and ends so with
-- what closing it answers. The streams are these, before and after.
module _ {M K R W : Type 0} (memory : Keeping M) (stores : Keeping K)
    (Begins : List ℕ → K → Type 0) (Ends : K → Closing → Type 0) (remaining : R → Option (List ℕ))
    (contents : W → Option (List ℕ)) (reader late_reader : CountedReader R)
    (writer later : CountedWriter W) where
  -- The lines of the reader were answered, over memory or over a store, which was closed.
  abbrev pub Runs : Option (Bor (List ℕ)) → Type 0
  Runs None = AnswersLines memory (IsNew memory) IsAny remaining contents reader late_reader writer
      later
  Runs (Some file) = AnswersLines stores (Begins file.now) (IsClosed Ends) remaining contents reader
      late_reader writer later

  -- This fault came of it, or of opening the store.
  abbrev pub FailsToRun : (List ℕ → ProgramFault → Type 0) → Option (Bor (List ℕ)) → ProgramFault
      → Type 0
  FailsToRun Refuses None why = (cause : StreamFault) × (why ≡ stream_fault cause)
      × StopsLines memory (IsNew memory) IsAny remaining contents reader late_reader writer later cause
  FailsToRun Refuses (Some file) why = FailsLines stores (Begins file.now) Ends remaining contents
      reader late_reader writer later (Refuses file.now) why

  -- The file of a name may hold such a text, or give no text of at most so many bytes for such a
  -- fault, and of stores this many were opened or made before and after.
  module _ (Holds : List ℕ → List ℕ → Type 0) (IsUnread : List ℕ → ℕ → ProgramFault → Type 0)
      (before after : ℕ) where
    -- This is so where a store of a name was made of these rings and this hour.
    module _ (IsMade : List ℕ → State → ℕ → Type 0) where
      -- A task had no fault and ended so: what it asks for was done, or an import was refused. Only
      -- `run` touches the reader. Of stores no other was opened, and none but by `renew` and
      -- `found` made.
      abbrev pub EndsSo : Task → Ending → Type 0
      EndsSo (task.Run file) Done = Runs file × OpensGiven before after file
      EndsSo (task.Serve file port count given names) Done = (late_reader ≡ reader) × (later ≡ writer)
          × ServesPort stores (Begins file.now) (IsClosed Ends) given names port count
          × OpensOne before after
      EndsSo (task.Loop file input given names) Done = (late_reader ≡ reader)
          × LoopsInput stores (Begins file.now) (IsClosed Ends) given names contents writer later
          (Holds input.now)
          × OpensOne before after
      EndsSo (task.Table file ring) Done = (late_reader ≡ reader)
          × ShowsStore stores (Begins file.now) Ends contents writer later [] []
          (AsksShown (task.Table file ring))
          × OpensOne before after
      EndsSo (task.Show file what) Done = (late_reader ≡ reader)
          × ShowsStore stores (Begins file.now) Ends contents writer later [] []
          (AsksShown (task.Show file what))
          × OpensOne before after
      EndsSo (task.Log file from lines) Done = (late_reader ≡ reader)
          × LogsStore stores (Begins file.now) Ends contents writer later from lines
          × OpensOne before after
      EndsSo (task.Export file ring version written) Done = (late_reader ≡ reader)
          × ShowsStore stores (Begins file.now) Ends contents writer later [] []
          (AsksShown (task.Export file ring version written))
          × OpensOne before after
      EndsSo (task.Nodes file ring account container object names) Done = (late_reader ≡ reader)
          × ShowsStore stores (Begins file.now) Ends contents writer later
          names.prefix.now names.suffix.now
          (AsksShown (task.Nodes file ring account container object names))
          × OpensOne before after
      EndsSo (task.Import file ring caller number csv given) ending = (late_reader ≡ reader)
          × ImportsFile stores (Begins file.now) Ends contents writer later
          (Holds csv.now) (IsUnread csv.now) before after (AsksImport ring.now caller.now number.now) given
          (EndsBy ending)
      EndsSo (task.Renew file fresh) Done = (late_reader ≡ reader) × (later ≡ writer)
          × Renews stores (Begins file.now) (IsClosedWhole stores Ends) (IsMade fresh.now)
          × OpensTwo before after
      EndsSo (task.Found fresh texts min_hours given from) Done = (late_reader ≡ reader)
          × (later ≡ writer)
          × Founds stores Begins Ends Holds (texts_given texts.items) min_hours given from
          (IsMade fresh.now)
          × OpensFounded before after from × IsThere IsUnread Holds from
      EndsSo task.Version Done = (late_reader ≡ reader) × TellsVersion contents writer later
          × OpensNone before after
      EndsSo _ _ = ⊥

    -- For such a fault a store of a name isn't opened, or isn't made of these rings and this hour.
    module _ (Refuses : List ℕ → ProgramFault → Type 0)
        (IsUnmade : List ℕ → State → ℕ → ProgramFault → Type 0) where
      -- This fault came of the work of a task, or of opening its store.
      abbrev pub FailsToDo : Task → ProgramFault → Type 0
      FailsToDo (task.Run file) why = FailsToRun Refuses file why × OpensGiven before after file
      FailsToDo (task.Serve file port count given names) why = (late_reader ≡ reader)
          × (later ≡ writer) × FailsToServePort stores (Begins file.now) Ends given names
          (Refuses file.now) port count why
          × OpensOne before after
      FailsToDo (task.Service file port hosts hour_ok names) why = (late_reader ≡ reader)
          × (later ≡ writer) × StopsOnMachine stores (Begins file.now) Ends (Refuses file.now)
          (task.Service file port hosts hour_ok names) why
          × OpensOne before after
      FailsToDo (task.Loop file input given names) why = (late_reader ≡ reader)
          × FailsToLoopInput stores (Begins file.now) Ends given names contents writer later
          (Refuses file.now) (IsUnread input.now) before after why
      FailsToDo (task.Table file ring) why = (late_reader ≡ reader)
          × FailsToShowStore stores (Begins file.now) Ends contents writer later (Refuses file.now) [] []
          (AsksShown (task.Table file ring)) why
          × OpensOne before after
      FailsToDo (task.Show file what) why = (late_reader ≡ reader)
          × FailsToShowStore stores (Begins file.now) Ends contents writer later (Refuses file.now) [] []
          (AsksShown (task.Show file what)) why
          × OpensOne before after
      FailsToDo (task.Log file from lines) why = (late_reader ≡ reader)
          × FailsToLogStore stores (Begins file.now) Ends contents writer later (Refuses file.now) from
          lines why
          × OpensOne before after
      FailsToDo (task.Export file ring version written) why = (late_reader ≡ reader)
          × FailsToShowStore stores (Begins file.now) Ends contents writer later (Refuses file.now) [] []
          (AsksShown (task.Export file ring version written)) why
          × OpensOne before after
      FailsToDo (task.Renew file fresh) why = (late_reader ≡ reader) × (later ≡ writer)
          × FailsToRenew stores (Begins file.now) Ends (Refuses file.now) (IsUnmade fresh.now) before
          after why
      FailsToDo (task.Found fresh texts min_hours given from) why = (late_reader ≡ reader)
          × (later ≡ writer) × FailsToFound stores Begins Ends Holds Refuses (IsUnmade fresh.now)
          before after IsUnread (texts_given texts.items) min_hours given from why
      FailsToDo task.Version why = (late_reader ≡ reader)
          × FailsToTellVersion contents writer later why × OpensNone before after
      FailsToDo (task.Nodes file ring account container object names) why = (late_reader ≡ reader)
          × FailsToShowStore stores (Begins file.now) Ends contents writer later (Refuses file.now)
          names.prefix.now names.suffix.now
          (AsksShown (task.Nodes file ring account container object names)) why
          × OpensOne before after
      FailsToDo (task.Import file ring caller number csv given) why = (late_reader ≡ reader)
          × FailsToImportFile stores (Begins file.now) Ends contents writer later
          (Holds csv.now) (IsUnread csv.now) before after (Refuses file.now)
          (AsksImport ring.now caller.now number.now) given why

      -- This fault came of a task: of its words, and then neither stream was touched, and no store
      -- was opened or made; or of its work.
      abbrev pub FailsSo : Task → ProgramFault → Type 0
      FailsSo t why =
          (IsFormFault (HasBadWord t) (IsPathless t) why × (late_reader ≡ reader) × (later ≡ writer)
          × OpensNone before after)
          ⊎ FailsToDo t why

      -- the lines that a task told before it told its fault: a service tells some, and so does
      -- founding, where a text is that of no ring
      abbrev pub work_lines : (t : Task) (why : ProgramFault) → FailsToDo t why → List (List ℕ)
      work_lines (task.Service file port hosts hour_ok names) why failed = machine_lines stores
          (Begins file.now) Ends (Refuses file.now) (task.Service file port hosts hour_ok names) why
          failed.2
      work_lines (task.Found fresh texts min_hours given from) why failed = founding_lines stores
          Begins Ends Holds Refuses (IsUnmade fresh.now) before after IsUnread (texts_given texts.items)
          min_hours given from why failed.2
      work_lines _ why failed = []

      -- the same of a task whose words may be at fault
      abbrev pub task_lines : (t : Task) (why : ProgramFault) → FailsSo t why → List (List ℕ)
      task_lines t why (inl words) = []
      task_lines t why (inr failed) = work_lines t why failed

-- A third stream tells of faults, before and after.
module _ {M K R W E : Type 0} (memory : Keeping M) (stores : Keeping K)
    (Begins : List ℕ → K → Type 0) (Ends : K → Closing → Type 0)
    (Holds : List ℕ → List ℕ → Type 0) (IsUnread : List ℕ → ℕ → ProgramFault → Type 0)
    (before after : ℕ) (IsMade : List ℕ → State → ℕ → Type 0) (remaining : R → Option (List ℕ))
    (contents : W → Option (List ℕ)) (told : E → Option (List ℕ))
    (reader late_reader : CountedReader R)
    (writer later : CountedWriter W) (errors late_errors : CountedWriter E) where
  -- A task was done, and no fault was told.
  abbrev pub IsTaskDone : Task → Type 0
  IsTaskDone t = EndsSo memory stores Begins Ends remaining contents reader late_reader writer later
      Holds IsUnread before after IsMade t Done × (late_errors ≡ errors)

  module _ (Refuses : List ℕ → ProgramFault → Type 0)
      (IsUnmade : List ℕ → State → ℕ → ProgramFault → Type 0) where
    -- A task had a fault that was told in one line, behind what it told before and in front of the
    -- line that says what it means, and ended with the status that tells it; or it was an import that
    -- was refused, and then no fault was told.
    abbrev pub FailsAt : Task → ℕ → Type 0
    FailsAt t status = ((why : ProgramFault)
        × (failed : FailsSo memory stores Begins Ends remaining contents reader late_reader writer
        later Holds IsUnread before after Refuses IsUnmade t why)
        × (status ≡ fault_status t why)
        × GetsTexts told errors late_errors (task_lines memory stores Begins Ends remaining contents
        reader late_reader writer later Holds IsUnread before after Refuses IsUnmade t why failed
        ++ fault_line why ∷ meaning_texts t why))
        ⊎ (EndsSo memory stores Begins Ends remaining contents reader late_reader writer later Holds
        IsUnread before after IsMade t Refused × (late_errors ≡ errors) × (status ≡ 1))

  -- The words of a command line are these.
  module _ (words : List (List ℕ)) where
    -- The words ask for a task, which was done, and no fault was told.
    abbrev pub DoesAsked : Type 0
    DoesAsked = (t : Task) × AskFor words t × IsTaskDone t

    -- The words ask for a task, which failed. Or there was no memory to read the words: that was
    -- told, the other streams were not touched, and no store was opened or made.
    abbrev pub FailsAsked : (List ℕ → ProgramFault → Type 0)
        → (List ℕ → State → ℕ → ProgramFault → Type 0) → ℕ → Type 0
    FailsAsked Refuses IsUnmade status =
        ((t : Task) × AskFor words t × FailsAt Refuses IsUnmade t status)
        ⊎ ((late_reader ≡ reader) × (later ≡ writer) × OpensNone before after × (status ≡ 1)
        × GetsText told errors late_errors (fault_line fault.NoMemory))

-- Stores are these, before and after, and of what their calls give back programs keep the answer.
module _ {S K U C N V F T M R W : Type 0} (g : store_calls.Ghosts S K U C N V F T)
    (kept : Keeping K) (memory : Keeping M) (before after : S) (remaining : R → Option (List ℕ))
    (contents : W → Option (List ℕ)) (reader late_reader : CountedReader R)
    (writer later : CountedWriter W) where
  -- A third stream tells of faults, before and after.
  module _ {E : Type 0} (told : E → Option (List ℕ)) (errors late_errors : CountedWriter E) where
    -- What these words ask for was done over these stores.
    abbrev pub DoesAskedOver : List (List ℕ) → Type 0
    DoesAskedOver = DoesAsked memory kept g.begins (Closes g) (GivesText g) (GivesNoText g)
        (g.openings before) (g.openings after) (MakesStore g) remaining contents told reader late_reader
        writer later errors late_errors

    -- It failed over them, or was an import that was refused, or there was no memory to read the
    -- words; and this is the status.
    abbrev pub FailsAskedOver : List (List ℕ) → ℕ → Type 0
    FailsAskedOver words = FailsAsked memory kept g.begins (Closes g) (GivesText g) (GivesNoText g)
        (g.openings before) (g.openings after) (MakesStore g) remaining contents told reader late_reader
        writer later errors late_errors words (RefusesToOpen g) (FailsToMake g)
