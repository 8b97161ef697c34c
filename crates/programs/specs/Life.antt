-- What a program makes of the store that it is over: one run of a book, from what it found there to
-- what it left, also where it failed. So the runs of all programs over one store, one after another,
-- are its life.
use Rattle.std.specs.Prelude.{◌++◌, ◌<◌, ◌≤◌, ◌≡◌, ◌⊎◌, ◌∷◌, ⊤, [], ℕ, All, IsSomeAnd, List}
use Rattle.std.specs.Prelude.{MatchOption, None}
use Rattle.std.specs.Prelude.{Option, Some, false, nat_lt, true}
use Rattle.std.specs.Option.{option_map, option_to_list}
use Rattle.byte_streams.specs.declared.counted.CountedReader.{CountedReader}
use Rattle.byte_streams.specs.declared.counted.CountedWriter.{CountedWriter}
use Rattle.builder.specs.Life.{BookCalls, BookContent, IsOneLife, IsProperCall, KeepsReply, Lives}
use Rattle.builder.specs.Life.{all_calls, nothing_held}
use Rattle.builder.specs.Safety.{AreValid, AreValidOnTheWay, IsSafeRun}
use Rattle.builder.specs.Step.{State, Step}
use Rattle.builder.specs.declared.machine.RingMachine.{RingMachine}
use Rattle.command_line.specs.declared.task.Task.{Task}
use Rattle.command_line.specs.declared.task.Task.TheVariants as task
use Rattle.csv_import.specs.declared.fault.CsvFault.{CsvFault}
use Rattle.http_api.specs.Http.{told_csv}
use Rattle.http_sockets.specs.Connections.{most_looped}
use Rattle.request_book.specs.Book.{Parts}
use Rattle.request_book.specs.Call.{Call, failed, finds_closed, meets_fault}
use Rattle.request_book.specs.Called.{Called}
use Rattle.request_book.specs.Front.{CallsMade}
use Rattle.request_book.specs.Keeper.{CrashLeaves}
use Rattle.request_book.specs.Made.{Makes}
use Rattle.request_book.specs.Run.{AnswersAlike, RepeatsAreKept, Run}
use Rattle.ring_book.specs.Book.{Asked, Keeping, steps_of}
use Rattle.ring_founding.specs.Founding.{AreFounded}
use Rattle.ring_founding.specs.declared.founding.Terms.{Terms}
use Rattle.ring_text.specs.Snapshot.{SnapshotRecord}
use Rattle.ring_words.specs.Limits.{greatest_short, long_count, most_numbers}
use Rattle.ring_words.specs.declared.command.Command.{Command}
use Rattle.ring_words.specs.declared.command.Reply.{Reply}
use Rattle.ring_words.specs.declared.request.Limits.{Limits}
use Rattle.program_stores.specs.Faults.{IsFileFault, IsStoreFault}
use Rattle.program_stores.specs.Stores.{Closing}
use Rattle.programs.specs.Begun.{AreServiceLimits, IsBegun, IsClosed}
use Rattle.programs.specs.Begun.{OpensNone, OpensOne, WasClosed}
use Rattle.programs.specs.Calls.{ended_calls, failed_calls}
use Rattle.programs.specs.Importing.{FailsTold, WritesTold}
use Rattle.programs.specs.Founding.{AreNoRings, HoldRings, IsMissing}
use Rattle.programs.specs.Performed.{EndsSo, FailsSo, texts_given}
use Rattle.programs.specs.Showing.{HasBadWord, IsFormFault, IsPathless}
use Rattle.programs.specs.Tables.{IsBadTable, IsNoTable}
use Rattle.program_stores.specs.declared.faults.ProgramFault.{ProgramFault}
use Rattle.program_stores.specs.declared.faults.ProgramFault.TheVariants as fault
use Rattle.programs.specs.declared.performing.Ending.TheVariants.{Done, Refused}

-- ---- one run

-- the name of the store that a task is over, if it is over one
abbrev pub store_of : Task → Option (List ℕ)
store_of (task.Run None) = None
store_of (task.Run (Some file)) = Some file.now
store_of (task.Serve file port count given names) = Some file.now
store_of (task.Service file port hosts hour_ok names) = Some file.now
store_of (task.Loop file input given names) = Some file.now
store_of (task.Import file ring caller number csv given) = Some file.now
store_of (task.Table file ring) = Some file.now
store_of (task.Show file what) = Some file.now
store_of (task.Log file from lines) = Some file.now
store_of (task.Nodes file ring account container object names) = Some file.now
store_of (task.Export file ring version written) = Some file.now
store_of (task.Renew file fresh) = Some file.now
store_of (task.Found fresh texts min_hours given from) = option_map (λ file. file.now) from
store_of task.Version = None

-- Keepers of stores are these. That of a store that is opened begins so, and one that is closed ends
-- so.
module _ {K : Type 0} (g : Keeping K) (Begins Ends : K → Type 0) where
  -- A store was opened and closed, and these calls of its book in between, all such as there are, are
  -- one run, under the limits of a service, from what it held to what it holds.
  pub record IsOneRun (calls : BookCalls) : Type 0 where
    pub keeper : K
    pub later : K
    pub opened : Begins keeper
    pub closed : Ends later
    pub stays_sound : g.sound later → g.sound keeper
    pub run : (limits : Limits) → AreServiceLimits limits → g.sound later → Run (Step limits)
        (g.limit keeper) (nat_lt 0 (g.fault_count keeper)) (g.content keeper) calls
        (g.content later)
    pub proper : All IsProperCall calls

-- So it was of the store of this name, if there is one, with these calls.
abbrev pub RunsStore : {K : Type 0} → Keeping K → (List ℕ → K → Type 0) → (K → Type 0) →
    Option (List ℕ) → BookCalls → Type 0
RunsStore g Begins Ends None calls = ⊤
RunsStore g Begins Ends (Some name) calls = IsOneRun g (Begins name) Ends calls

-- ---- no run

-- There is a store of this name, and it isn't opened for this fault.
abbrev pub RefusesStore : (List ℕ → ProgramFault → Type 0) → Option (List ℕ) → ProgramFault → Type 0
RefusesStore Refuses None why = ⊥
RefusesStore Refuses (Some name) why = Refuses name why × IsStoreFault why

-- The file of a name may hold such a text, or give no text of at most so many bytes for such a fault,
-- and the writer is this, before and after. Of stores this many were opened or made before and after.
module _ {W : Type 0} (contents : W → Option (List ℕ)) (writer later : CountedWriter W)
    (Holds : List ℕ → List ℕ → Type 0) (IsUnread : List ℕ → ℕ → ProgramFault → Type 0)
    (before after : ℕ) where
  -- A task imports a table that tells no rows, the line that tells why was written, and no store was
  -- opened or made.
  abbrev pub TellsBadTable : Task → Type 0
  TellsBadTable (task.Import file ring caller number csv given) = (cause : CsvFault) × (status : ℕ)
      × IsBadTable (IsUnread csv.now) (Holds csv.now) cause
      × WritesTold contents writer later (told_csv cause) status
      × OpensNone before after
  TellsBadTable _ = ⊥

  -- This fault came of a file that a task reads before it opens its store: an input wasn't read; a
  -- table wasn't read, or tells no rows, and the writer failed and took a beginning of why; a text wasn't
  -- read, or is that of no ring; or the store beside which rings are founded isn't there.
  abbrev pub ComesOfFile : Task → ProgramFault → Type 0
  ComesOfFile (task.Loop file input given names) why = IsUnread input.now most_looped why
      × IsFileFault why
  ComesOfFile (task.Import file ring caller number csv given) why = IsNoTable (IsUnread csv.now) why
      ⊎ ((why ≡ fault.WriteFailed) × ((cause : CsvFault)
      × IsBadTable (IsUnread csv.now) (Holds csv.now) cause
      × FailsTold contents writer later (told_csv cause)))
  ComesOfFile (task.Found fresh texts min_hours given from) why = AreNoRings Holds IsUnread
      (texts_given texts.items) why ⊎ IsMissing IsUnread from why
  ComesOfFile _ why = ⊥

  -- This fault came before a task had opened its store: of its words, or of the file that it reads
  -- first, and no store was opened or made; or of the opening, which was refused for it, and no other
  -- was.
  abbrev pub FailsBefore : (List ℕ → ProgramFault → Type 0) → Task → ProgramFault → Type 0
  FailsBefore Refuses t why =
      ((IsFormFault (HasBadWord t) (IsPathless t) why ⊎ ComesOfFile t why) × OpensNone before after)
      ⊎ (RefusesStore Refuses (store_of t) why × OpensOne before after)

-- ---- laws

-- Whatever the streams and the task are, over memory and over stores of which this is said.
module _ {M K R W : Type 0} (memory : Keeping M) (stores : Keeping K)
    (Begins : List ℕ → K → Type 0) (Ends : K → Closing → Type 0)
    (Holds : List ℕ → List ℕ → Type 0) (IsUnread : List ℕ → ℕ → ProgramFault → Type 0)
    (remaining : R → Option (List ℕ)) (contents : W → Option (List ℕ)) where
  module _ (IsMade : List ℕ → State → ℕ → Type 0) where
    -- Where a task was done, its calls are one run of its store, which was closed.
    abbrev pub DoneIsOneRun : Type 0
    DoneIsOneRun = (reader late_reader : CountedReader R) (writer later : CountedWriter W)
        (before after : ℕ) (t : Task)
        (done : EndsSo memory stores Begins Ends remaining contents reader late_reader writer later
        Holds IsUnread before after IsMade t Done)
        → RunsStore stores Begins (IsClosed Ends) (store_of t)
        (ended_calls memory stores Begins Ends Holds IsUnread remaining contents reader late_reader
        writer later before after IsMade t Done done)

    -- Where an import was refused, so they are too, or its table tells no rows.
    abbrev pub RefusedIsOneRun : Type 0
    RefusedIsOneRun = (reader late_reader : CountedReader R) (writer later : CountedWriter W)
        (before after : ℕ) (t : Task)
        (refused : EndsSo memory stores Begins Ends remaining contents reader late_reader writer later
        Holds IsUnread before after IsMade t Refused)
        → TellsBadTable contents writer later Holds IsUnread before after t
        ⊎ RunsStore stores Begins (IsClosed Ends) (store_of t)
        (ended_calls memory stores Begins Ends Holds IsUnread remaining contents reader late_reader
        writer later before after IsMade t Refused refused)

  module _ (Refuses : List ℕ → ProgramFault → Type 0)
      (IsUnmade : List ℕ → State → ℕ → ProgramFault → Type 0) where
    -- Where a task failed, the fault came before its store was opened; or its calls are one run of
    -- it, and it was closed, whatever that answered.
    abbrev pub FailedIsOneRun : Type 0
    FailedIsOneRun = (reader late_reader : CountedReader R)
        (writer later : CountedWriter W) (before after : ℕ) (t : Task) (why : ProgramFault)
        (failed : FailsSo memory stores Begins Ends remaining contents reader late_reader writer later
        Holds IsUnread before after Refuses IsUnmade t why)
        → FailsBefore contents writer later Holds IsUnread before after Refuses t why
        ⊎ RunsStore stores Begins (WasClosed Ends) (store_of t)
        (failed_calls memory stores Begins Ends Holds IsUnread remaining contents reader late_reader
        writer later before after Refuses IsUnmade t why failed)

-- ---- a life of programs

-- A run that found what the life of a store had left goes on with it. Keepers of stores are these,
-- begin so, and are left so.
abbrev pub GoesOnWithLife : {K : Type 0} → Keeping K → (List ℕ → K → Type 0) → (K → Type 0) → Type 0
GoesOnWithLife g Begins Ends = (name : List ℕ) (limits : Limits)
    (first mid : BookContent) (runs : List BookCalls) (calls : BookCalls) → AreServiceLimits limits
    → Lives limits most_numbers first runs mid → (one : IsOneRun g (Begins name) Ends calls)
    → g.sound one.later → g.content one.keeper ≡ mid
    → Lives limits most_numbers first (runs ++ calls ∷ []) (g.content one.later)

-- Keepers of stores are these.
module _ {K : Type 0} (g : Keeping K) where
  -- This may be left in the midst of a call of a book that has not failed, or of none: without a call
  -- what the book holds, else that or the request wholly.
  abbrev pub IsLeftIn : Parts RingMachine K → Asked → BookContent → Type 0
  IsLeftIn book asked left = MatchOption asked (left ≡ g.content book.keeper)
      (λ call. Called (steps_of book.machine) (g.limit book.keeper) false (g.content book.keeper)
      call left)

  -- Between calls a crash leaves what a book holds.
  abbrev pub CrashLeavesHeld : Type 0
  CrashLeavesHeld = (book : Parts RingMachine K) → g.sound book.keeper
      → g.fault_count book.keeper ≡ 0 → CrashLeaves (g.may_leave book.keeper) (IsLeftIn book None)

  -- After a call, whatever it was answered, a crash leaves what was before it or the request wholly.
  abbrev pub CrashLeavesCall : Type 0
  CrashLeavesCall = (book later : Parts RingMachine K) (call : Call Command Reply)
      → Makes steps_of g.content g.sound g.limit g.fault_count g.may_leave book later call
      → g.sound later.keeper → g.fault_count book.keeper ≡ 0
      → CrashLeaves (g.may_leave later.keeper) (IsLeftIn book (Some call))

  -- What a crash leaves in the midst of a call is what a run leaves that ends with that call.
  abbrev pub CrashEndsRun : Type 0
  CrashEndsRun = (limits : Limits) (limit : ℕ) (first mid : BookContent) (calls : BookCalls)
      (call : Call Command Reply) (keeper : K)
      → Run (Step limits) limit false first calls mid → failed calls ≡ None
      → CrashLeaves (g.may_leave keeper) (Called (Step limits) limit false mid call)
      → CrashLeaves (g.may_leave keeper) (Run (Step limits) limit false first (calls ++ call ∷ []))

  -- Those of stores of one name begin so, and end so with what closing them answers.
  module _ (Begins : K → Type 0) (Ends : K → Closing → Type 0) where
    -- A program found the old content, made these calls in one run, and closed the store, whatever
    -- that answered. It left the new content.
    pub record EndsItself (old : BookContent) (calls : BookCalls) (new : BookContent) : Type 0 where
      pub one : IsOneRun g Begins (WasClosed Ends) calls
      pub sound : g.sound one.later
      pub found : g.content one.keeper ≡ old
      pub left : g.content one.later ≡ new

    -- A program was cut off that had found the old content. Calls had been answered, and in none of
    -- them had the store failed. Then it was in the midst of one more, or of none, when a crash came or
    -- the store failed; behind a call in which it failed the book was closed. What may be left in the
    -- midst of that call may be left then, and nothing else, and the new content was left.
    pub record WasCutOff (old : BookContent) (calls : BookCalls) (new : BookContent) : Type 0 where
      pub first : Parts RingMachine K
      pub mid : Parts RingMachine K
      pub opened : IsBegun Begins first
      pub found : g.content first.keeper ≡ old
      pub answered : BookCalls
      pub made : CallsMade steps_of g.content g.sound g.limit g.fault_count first mid answered
      pub unfailed : failed answered ≡ None
      pub sound : g.sound mid.keeper
      pub asked : Asked
      pub behind : BookCalls
      pub closed : All (λ call. finds_closed call ≡ true) behind
      pub fault : (behind ≡ []) ⊎ IsSomeAnd asked (λ call. meets_fault call ≡ true)
      pub calls_are : calls ≡ answered ++ option_to_list asked ++ behind
      pub proper : All IsProperCall calls
      -- the keeper as that found it
      pub keeper : K
      pub crash : CrashLeaves (g.may_leave keeper) (IsLeftIn mid asked)
      pub left : g.may_leave keeper (Some new)

    -- Programs were started one after another that opened the store, each of which ended by itself or
    -- was cut off. Each found what the one before it had left, and these are the calls of each.
    abbrev pub ProgramsLive : BookContent → List BookCalls → BookContent → Type 0
    ProgramsLive old [] new = new ≡ old
    ProgramsLive old (calls ∷ later) new = (mid : BookContent)
        × (EndsItself old calls mid ⊎ WasCutOff old calls mid) × ProgramsLive mid later new

-- The calls of all programs, in their order, come to one run, and that is safe. Each reply is kept to
-- the end: two replies to one key, in whichever programs, are one reply, to one command, and a repeat
-- gets that reply.
pub record AreOneSafeRun (limits : Limits) (old : BookContent) (runs : List BookCalls)
    (new : BookContent) : Type 0 where
  pub one : IsOneLife limits most_numbers old runs new
  pub safe : IsSafeRun limits old new
  pub kept : All (All (KeepsReply new.book)) runs
  pub alike : AnswersAlike (all_calls runs)
  pub repeats : RepeatsAreKept (all_calls runs)

-- Keepers of stores are these, begin so, and end so with what closing them answers.
module _ {K : Type 0} (g : Keeping K) (Begins : List ℕ → K → Type 0) (Ends : K → Closing → Type 0)
  where
    -- So it is of all programs over one store, under the limits of a service.
    abbrev pub ProgramsAreOneRun : Type 0
    ProgramsAreOneRun = (name : List ℕ) (limits : Limits) (old new : BookContent) (runs : List BookCalls)
        → AreServiceLimits limits → ProgramsLive g (Begins name) Ends old runs new
        → AreOneSafeRun limits old runs new

    -- Where the first of them found nothing, they are one safe run, and all rings on its way are valid.
    abbrev pub ProgramsStayValid : Type 0
    ProgramsStayValid = (name : List ℕ) (limits : Limits) (new : BookContent)
        (runs : List BookCalls) → AreServiceLimits limits
        → ProgramsLive g (Begins name) Ends nothing_held runs new
        → (safe : IsSafeRun limits nothing_held new) × AreValidOnTheWay safe.led

-- what a store holds that was made of rings and an hour: them, and no request
abbrev pub made_content : State → ℕ → BookContent
made_content rings hour = record { state = rings; book = []; hour = hour }

-- Rings that were founded of the texts of files, beside valid ones, are valid, and stay so: all
-- programs over a store that was made of them are one safe run, and all rings on its way are valid.
-- Keepers of stores are these, begin so, and end so with what closing them answers. A file of a name
-- may hold such a text.
abbrev pub FoundedStayValid : {K : Type 0} → Keeping K → (List ℕ → K → Type 0)
    → (K → Closing → Type 0) → (List ℕ → List ℕ → Type 0) → Type 0
FoundedStayValid g Begins Ends Holds = (terms : Terms) (old rings : State) (hour : ℕ)
    (names : List (List ℕ)) (snapshots : List SnapshotRecord) (name : List ℕ) (limits : Limits)
    (new : BookContent) (runs : List BookCalls)
    → AreValid old → terms.min_hours ≤ greatest_short → terms.hour < long_count → hour < long_count
    → HoldRings Holds names snapshots → AreFounded terms old snapshots rings
    → AreServiceLimits limits
    → ProgramsLive g (Begins name) Ends (made_content rings hour) runs new
    → (safe : IsSafeRun limits (made_content rings hour) new) × AreValidOnTheWay safe.led
