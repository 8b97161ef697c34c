-- What each program makes of the store that it is over is one run.
use Rattle.std.proofs.Common.{◌≡◌, ◌⊎◌, ◌∙◌, ◌∷◌, [], Err, List, None, Ok, Option, Some, arith, inl}
use Rattle.std.proofs.Common.{ap, inr, refl, subst, sym, ℕ}
use Rattle.std.proofs.Math.Bridge.{le_prop}
use mathlib.Core.HLevel.{is_prop→PathP}
use Rattle.std.specs.Borrow.{Bor}
use Rattle.std.proofs.lemmas.List.Elements.{All-cons, All-nil}
use Rattle.std.specs.Prelude.{◌++◌, ◌||◌, ◌≤◌, All, Bool, false, is_some, max, nat_lt}
use Rattle.http_api.proofs.Servings.{proper_requests}
use Rattle.http_messages.specs.declared.audience.Audience.TheVariants.{Anyone}
use Rattle.http_sockets.specs.Connections.{AnswersFirst, LoopFails, OneServed}
use Rattle.http_sockets.specs.Hours.{TellsGiven}
use Rattle.http_sockets.specs.declared.fault.ServeFault.{ServeFault}
use Rattle.http_sockets.specs.declared.fault.ServeFault.TheVariants as serving
use Rattle.http_sockets.specs.declared.fault.ServiceEnd.{ServiceEnd}
use Rattle.http_sockets.specs.declared.fault.ServiceEnd.TheVariants as ended
use Rattle.http_api.specs.Served.{ServesHttp}
use Rattle.byte_streams.specs.Counted.{write_faults}
use Rattle.line_api.proofs.Serving.{proper_lines}
use Rattle.byte_streams.specs.declared.counted.CountedReader.{CountedReader}
use Rattle.byte_streams.specs.declared.counted.CountedWriter.{CountedWriter}
use Rattle.byte_streams.specs.declared.fault.StreamFault.{StreamFault}
use Rattle.byte_streams.specs.declared.fault.StreamFault.TheVariants as stream
use Rattle.builder.specs.Life.{IsProperCall, Lives}
use Rattle.builder.specs.Safety.{Entries}
use Rattle.builder.specs.Step.{State, Step}
use Rattle.builder.specs.declared.machine.RingMachine.{RingMachine}
use Rattle.command_line.specs.declared.task.Task.{Task}
use Rattle.command_line.specs.declared.task.Task.TheVariants as task
use Rattle.request_book.proofs.Calls.{or_false}
use Rattle.request_book.proofs.Runs.{leaves_map}
use Rattle.request_book.specs.Book.{Parts}
use Rattle.request_book.specs.Call.{Call, Deliver, failed}
use Rattle.request_book.specs.Called.{Called}
use Rattle.request_book.specs.Content.{Content}
use Rattle.request_book.specs.Front.{CallsMade}
use Rattle.request_book.specs.Run.{Run}
use Rattle.request_book.specs.declared.keeper.KeepFault.{KeepFault}
use Rattle.ring_book.specs.Book.{Keeping, steps_of}
use Rattle.ring_messages.specs.declared.told.Told.{Told}
use Rattle.ring_words.specs.Limits.{most_devices, most_ids, most_numbers, most_rings, most_versions}
use Rattle.ring_words.specs.declared.command.Act.TheVariants as act
use Rattle.ring_words.specs.declared.command.Command.{Command}
use Rattle.ring_words.specs.declared.command.Reply.{Reply}
use Rattle.ring_words.specs.declared.device.Row.{Row}
use Rattle.ring_words.specs.declared.request.Limits.{Limits}
use Rattle.builder.specs.Replies.{answer_status}
use Rattle.csv_import.specs.declared.fault.CsvFault.{CsvFault}
use Rattle.csv_import.specs.declared.fault.CsvFault.TheVariants as csv
use Rattle.http_api.specs.Http.{told_csv}
use Rattle.path_lookup.specs.declared.hash.HashNames.{HashNames}
use Rattle.ring_messages.specs.declared.told.Told.TheVariants as told
use Rattle.ring_reads.specs.Holding.{Holding}
use Rattle.ring_reads.specs.declared.reads.Question.{Question}
use Rattle.http_sockets.specs.Listening.{AcceptsNone, HasAcceptedNone}
use Rattle.program_stores.specs.Stores.{Closing}
use Rattle.programs.specs.Begun.{AreServiceLimits, FailedToClose, IsBegun, IsClosed}
use Rattle.programs.specs.Begun.{HasNotFailed, IsClosedWhole}
use Rattle.program_stores.specs.Faults.{IsStoreFault, found_fault}
use Rattle.programs.specs.Begun.{OpensNone, OpensOne, OpensTwo, WasClosed}
use Rattle.programs.specs.Begun.{WasClosedAfter}
use Rattle.programs.specs.Importing.{FailsTold, FailsToDeliver, FailsToImport, Imports, IsToldAs, TellsImport}
use Rattle.programs.specs.Importing.{TellsNothing, WritesTold}
use Rattle.programs.specs.Life.{FailsBefore, ComesOfFile, CrashEndsRun, GoesOnWithLife}
use Rattle.programs.specs.Life.{IsOneRun, RunsStore, TellsBadTable, store_of}
use Rattle.programs.specs.Calls.{ended_calls, failed_calls, failed_loop_calls, failed_port_calls}
use Rattle.programs.specs.Calls.{fewer_calls, import_calls, line_calls, loop_calls, looped_calls}
use Rattle.programs.specs.Calls.{port_calls, run_calls, serve_calls, service_calls, stops_calls}
use Rattle.programs.specs.Calls.{stopped_calls, stopped_loop_calls, told_calls, undelivered_calls}
use Rattle.programs.specs.Calls.{unimported_calls, until_calls, untold_calls, work_calls}
use Rattle.programs.specs.Logging.{FailsToLogStore, IsLogged, LogsStore}
use Rattle.programs.specs.Performed.{EndsBy, EndsSo, FailsSo, FailsToDo, FailsToShowStore}
use Rattle.programs.specs.Performed.{ImportsFile, ShowsStore, texts_given}
use Rattle.programs.specs.Founding.{AreNoRings, FailsToFound, IsMissing}
use Rattle.programs.specs.Renewing.{FailsToRead, FailsToRenew, IsRead}
use Rattle.ring_founding.specs.Founding.{AreFounded, AreUnfounded}
use Rattle.ring_founding.specs.declared.founding.FoundFault.{FoundFault}
use Rattle.programs.specs.Running.{AnswersLines, FailsLines, StopsLines}
use Rattle.programs.specs.Service.{ServesPrograms, StopsOnMachine, StopsService, WasAsked}
use Rattle.programs.specs.Service.{tcp_contents}
use Rattle.programs.specs.Serving.{FailsToLoop, FailsToLoopInput, FailsToServePort, Service}
use Rattle.programs.specs.Serving.{ServesFewer, ServesOne, ServesPort, accepts_tcp, shuts_tcp}
use Rattle.programs.specs.Serving.{tcp_remaining}
use Rattle.programs.specs.Showing.{AsksShown, IsAsked, ShowsNothing}
use Rattle.program_stores.specs.declared.faults.ProgramFault.{ProgramFault}
use Rattle.program_stores.specs.declared.faults.ProgramFault.TheVariants as fault
use Rattle.programs.specs.declared.importing.ImportAsk.{ImportAsk}
use Rattle.programs.specs.declared.service.ServiceAsk.{ServiceAsk}
use Rattle.programs.specs.declared.performing.Ending.TheVariants.{Done, Refused}

-- the limits of a service are those of any other
pub same_limits : (a b : Limits) → AreServiceLimits a → AreServiceLimits b → a ≡ b
same_limits a b full also = λ i. record {
  rings = (full.rings ∙ sym also.rings) i;
  devices = (full.devices ∙ sym also.devices) i;
  ids = (full.ids ∙ sym also.ids) i;
  versions = (full.versions ∙ sym also.versions) i;
  numbers = (full.numbers ∙ sym also.numbers) i;
  rings_within = is_prop→PathP (λ i. (full.rings ∙ sym also.rings) i ≤ most_rings) (λ i. le_prop)
      a.rings_within b.rings_within i;
  devices_within = is_prop→PathP (λ i. (full.devices ∙ sym also.devices) i ≤ most_devices)
      (λ i. le_prop) a.devices_within b.devices_within i;
  ids_within = is_prop→PathP (λ i. (full.ids ∙ sym also.ids) i ≤ most_ids) (λ i. le_prop)
      a.ids_within b.ids_within i;
  versions_within = is_prop→PathP (λ i. (full.versions ∙ sym also.versions) i ≤ most_versions)
      (λ i. le_prop) a.versions_within b.versions_within i;
  numbers_within = is_prop→PathP (λ i. (full.numbers ∙ sym also.numbers) i ≤ most_numbers)
      (λ i. le_prop) a.numbers_within b.numbers_within i;
}

-- calls of the builder and their answers
abbrev Calls : Type 0
Calls = List (Call Command Reply)

abbrev Held : Type 0
Held = Content State Command Reply

-- the two laws of books: no call makes a run, and one more goes on with it
abbrev StaysNone : {K : Type 0} → Keeping K → Type 0
StaysNone {K} g = (book : Parts RingMachine K) → CallsMade steps_of g.content g.sound g.limit
    g.fault_count book book []

abbrev GoesOn : Type 0
GoesOn = (machine : RingMachine) (limit : ℕ) (closed : Bool) (old mid new : Held) (calls : Calls)
    (call : Call Command Reply) → Run (steps_of machine) limit closed old calls mid
    → Called (steps_of machine) limit (closed || is_some (failed calls)) mid call new
    → Run (steps_of machine) limit closed old (calls ++ call ∷ []) new

module _ {K : Type 0} (g : Keeping K) (Begins Ends : K → Type 0) where
  -- a run under the limits that its book has is one under those of a service
  one_run : (old new : Parts RingMachine K) (calls : Calls) → IsBegun Begins old → Ends new.keeper
      → (g.sound new.keeper → g.sound old.keeper)
      → (g.sound new.keeper → Run (steps_of old.machine) (g.limit old.keeper)
      (nat_lt 0 (g.fault_count old.keeper)) (g.content old.keeper) calls (g.content new.keeper))
      → All IsProperCall calls → IsOneRun g Begins Ends calls
  one_run old new calls begun ends stays run proper = record {
    keeper = old.keeper;
    later = new.keeper;
    opened = begun.keeper;
    closed = ends;
    stays_sound = stays;
    run = λ limits full sound. subst (λ l. Run (Step l) (g.limit old.keeper)
        (nat_lt 0 (g.fault_count old.keeper)) (g.content old.keeper) calls (g.content new.keeper))
        (same_limits old.machine.limits limits begun.full full) (run sound);
    proper = proper;
  }

  -- so do calls that were made one after another
  pub made_run : (old new : Parts RingMachine K) (calls : Calls) → IsBegun Begins old
      → Ends new.keeper
      → CallsMade steps_of g.content g.sound g.limit g.fault_count old new calls
      → All IsProperCall calls → IsOneRun g Begins Ends calls
  made_run old new calls begun ends made proper = one_run old new calls begun ends made.stays_sound
      made.run proper

  module _ (none : StaysNone g) where
    -- a keeper that is only asked makes a run of no call
    still_run : (keeper later : K) → Begins keeper → Ends later → (g.sound later → g.sound keeper)
        → (g.sound later → g.content later ≡ g.content keeper) → IsOneRun g Begins Ends []
    still_run keeper later begins ends stays same = record {
      keeper = keeper;
      later = later;
      opened = begins;
      closed = ends;
      stays_sound = stays;
      run = λ limits full sound. subst (Run (Step limits) (g.limit keeper)
          (nat_lt 0 (g.fault_count keeper)) (g.content keeper) []) (sym (same sound))
          ((none (record { machine = record { limits = limits }; keeper = keeper })).run
          (stays sound));
      proper = All-nil IsProperCall;
    }

    pub asked_run : (Tells : Holding → Type 0) → IsAsked g Begins Ends Tells
        → IsOneRun g Begins Ends []
    asked_run Tells a = still_run a.keeper a.later a.opened a.left a.stays_sound a.stays

    pub log_run : (Tells : Entries → Type 0) → IsLogged g Begins Ends Tells
        → IsOneRun g Begins Ends []
    log_run Tells a = still_run a.keeper a.later a.opened a.left a.stays_sound a.stays

    pub read_run : (IsSo : State → ℕ → Type 0) → IsRead g Begins Ends IsSo
        → IsOneRun g Begins Ends []
    read_run IsSo r = still_run r.keeper r.later r.opened r.ended r.stays_sound r.stays

    -- one delivery is a run of one call
    pub import_run : GoesOn → (ask : ImportAsk) (rows : List Row) (hour : ℕ) (t : Told)
        → (i : Imports g Begins Ends ask rows hour t)
        → IsOneRun g Begins Ends (import_calls g Begins Ends ask rows hour t i)
    import_run more ask rows hour t i =
        let closed : Bool = nat_lt 0 (g.fault_count i.book.keeper) in
        let call : Call Command Reply = Deliver (record {
          hour = hour;
          key = ask.key;
          command = record { ring = ask.ring; act = act.Import rows };
        }) i.answer in
        one_run i.book i.later (call ∷ []) i.opened i.left i.made.stays_sound
        (λ sound. more i.book.machine (g.limit i.book.keeper) closed (g.content i.book.keeper)
        (g.content i.book.keeper) (g.content i.later.keeper) [] call
        ((none i.book).run (i.made.stays_sound sound))
        (subst (λ b. Called (steps_of i.book.machine) (g.limit i.book.keeper) b
        (g.content i.book.keeper) call (g.content i.later.keeper)) (or_false closed)
        (i.made.called sound)))
        (All-cons IsProperCall call [] i.proper (All-nil IsProperCall))

-- no table that is refused is told as an import that was done
not_done : (why : CsvFault) (shown : Told) → (shown ≡ told_csv why) ⊎ (shown ≡ told.NoMemory)
    → answer_status shown ≡ 200 → ⊥
not_done why shown (inl is) status = refused why (subst (λ t. answer_status t ≡ 200) is status)
  where
    refused : (why : CsvFault) → answer_status (told_csv why) ≡ 200 → ⊥
    refused csv.BadHeader h = omega (arith, h)
    refused (csv.BadRow row) h = omega (arith, h)
    refused (csv.BadField row column) h = omega (arith, h)
    refused csv.ReadFailed h = omega (arith, h)
    refused csv.NoMemory h = omega (arith, h)
not_done why shown (inr is) status =
    let h : answer_status told.NoMemory ≡ 200 = subst (λ t. answer_status t ≡ 200) is status in
    omega (arith, h)

-- what was told of a table that is refused
told_as : (why : CsvFault) (t shown : Told) → t ≡ told_csv why → IsToldAs t shown
    → (shown ≡ told_csv why) ⊎ (shown ≡ told.NoMemory)
told_as why t shown is (inl same) = inl (same ∙ is)
told_as why t shown is (inr lost) = inr lost

-- Runs over a keeper that begins so and is left so.
module _ {K : Type 0} (g : Keeping K) (Begins Ends : K → Type 0) (none : StaysNone g) where
  -- a book that stays as it is makes a run of no call
  same_run : (old new : Parts RingMachine K) → IsBegun Begins old → Ends new.keeper → new ≡ old
      → IsOneRun g Begins Ends []
  same_run old new begun ends same = still_run g Begins Ends none old.keeper new.keeper begun.keeper
      ends (subst (λ (b : Parts RingMachine K). g.sound b.keeper) same)
      (λ sound. ap (λ (b : Parts RingMachine K). g.content b.keeper) same)

  module _ {R W : Type 0} (remaining : R → Option (List ℕ)) (contents : W → Option (List ℕ))
      (reader late_reader : CountedReader R) (writer later : CountedWriter W) where
    -- the run of a program that answered lines
    lines_run : (all : AnswersLines g Begins Ends remaining contents reader late_reader writer later)
        → IsOneRun g Begins Ends (line_calls g Begins Ends remaining contents reader late_reader
        writer later all)
    lines_run all = let run = all.0.1 in made_run g Begins Ends run.0 run.1 run.4.get.calls run.2 run.3
        run.4.get.made (proper_lines g run.0 _ _ run.1 run.4.get)

    -- of one that a fault of a stream stopped
    stopped_run : (why : StreamFault)
        (all : StopsLines g Begins Ends remaining contents reader late_reader writer later why)
        → IsOneRun g Begins Ends (stopped_calls g Begins Ends remaining contents reader late_reader
        writer later why all)
    stopped_run stream.ReadFailed all = let run = all.0 in made_run g Begins Ends run.0 run.1
        run.4.get.calls run.2 run.3 run.4.get.made (proper_lines g run.0 _ _ run.1 run.4.get)
    stopped_run stream.WriteFailed all = let run = all.0 in made_run g Begins Ends run.0 run.1
        run.4.get.calls run.2 run.3 run.4.get.made (proper_lines g run.0 _ _ run.1 run.4.get)
    stopped_run stream.NoMemory all = let run = all.0 in same_run run.0 run.1 run.2 run.3 run.4.2

  module _ (given : Option ℕ) (names : HashNames) where
    -- of one that served connections
    served_run : (port count : ℕ) (s : ServesPort g Begins Ends given names port count)
        → IsOneRun g Begins Ends (port_calls g Begins Ends given names port count s)
    served_run port count s = made_run g Begins Ends s.first.1 s.last.1 s.led.3.serves.calls s.opened
        s.left s.led.3.serves.made (proper_requests g TellsGiven names.prefix.now names.suffix.now
        s.first _ _ s.last s.led.3.serves)

    -- of one that served fewer
    fewer_run : {D S : Type 0} (remaining : S → Option (List ℕ)) (gives : D → S → S → D → Type 0)
        (fails : D → D → Type 0) (opens : ℕ → D → Type 0) (shuts : ℕ → Type 0) (port count : ℕ)
        (s : ServesFewer g Begins Ends given names remaining gives fails opens shuts port count)
        → IsOneRun g Begins Ends (fewer_calls g Begins Ends given names remaining gives fails opens
        shuts port count s)
    fewer_run remaining gives fails opens shuts port count s = elim s.led as (λ led. IsOneRun g Begins
        Ends (failed_port_calls g Begins Ends given names remaining gives fails opens shuts port count
        s.first s.last led)) [
          | inl shut ↦ same_run s.first.1 s.last.1 s.opened s.left (ap (λ (f : Service K). f.1) shut.1)
          | inr some ↦ made_run g Begins Ends s.first.1 s.last.1 some.3.then.all.serves.calls s.opened
              s.left some.3.then.all.serves.made (proper_requests g TellsGiven names.prefix.now
              names.suffix.now s.first _ _ s.last some.3.then.all.serves)
        ]

    module _ (first last : Service K) (opened : IsBegun Begins first.1) (left : Ends last.1.keeper)
      where
        -- of a connection of the machine with itself
        one_run_of : (one : OneServed g TellsGiven names.prefix.now names.suffix.now
            (AnswersFirst Anyone tcp_remaining) first last)
            → IsOneRun g Begins Ends one.serves.calls
        one_run_of one = made_run g Begins Ends first.1 last.1 one.serves.calls opened left
            one.serves.made (proper_requests g TellsGiven names.prefix.now names.suffix.now
            first _ _ last one.serves)

        -- of none
        none_run : last ≡ first → IsOneRun g Begins Ends []
        none_run none = same_run first.1 last.1 opened left (ap (λ (f : Service K). f.1) none)

        -- of one that a fault of its serving stopped
        fault_run : (before after : ℕ) (why : ServeFault)
            (fails : LoopFails g TellsGiven names.prefix.now names.suffix.now
            (AnswersFirst Anyone tcp_remaining) first last before after why)
            → IsOneRun g Begins Ends (failed_loop_calls g Begins Ends given names first last before
            after why fails)
        fault_run before after serving.NetFailed (same, inl none) = none_run none
        fault_run before after serving.NetFailed (same, inr one) = one_run_of one
        fault_run before after (serving.Stream stream.ReadFailed) (same, (one, is)) = one_run_of one
        fault_run before after (serving.Stream stream.WriteFailed) (inl (more, one)) = one_run_of one
        fault_run before after (serving.Stream stream.WriteFailed) (inr (same, (one, is))) =
            one_run_of one
        fault_run before after (serving.Stream stream.NoMemory) (same, inl none) = none_run none
        fault_run before after (serving.Stream stream.NoMemory) (same, inr (one, is)) = one_run_of one

    -- of one that served a connection of the machine with itself
    looped_run : (s : ServesOne g Begins Ends given names)
        → IsOneRun g Begins Ends (looped_calls g Begins Ends given names s)
    looped_run s = one_run_of s.first s.last s.opened s.left s.led.0

-- A keeper that begins so was asked, and is left so.
module _ {K : Type 0} (g : Keeping K) (Begins Ends : K → Type 0) where
  -- a run from what it became is one from what it was
  asked_first : (keeper found : K) (calls : Calls) → Begins keeper → WasAsked g keeper found
      → HasNotFailed g found → IsOneRun g (λ k. k ≡ found) Ends calls → IsOneRun g Begins Ends calls
  asked_first keeper found calls begins asked unfailed one =
      let at_found : g.sound one.later → g.sound found =
      λ sound. subst g.sound one.opened (one.stays_sound sound) in
      record {
        keeper = keeper;
        later = one.later;
        opened = begins;
        closed = one.closed;
        stays_sound = λ sound. asked.sound (at_found sound);
        run = λ limits full sound. subst (λ n. Run (Step limits) (g.limit keeper) (nat_lt 0 n)
            (g.content keeper) calls (g.content one.later)) (unfailed ∙ sym asked.unfailed)
            (subst (λ l. Run (Step limits) l (nat_lt 0 (g.fault_count found))
            (g.content keeper) calls (g.content one.later)) asked.limit
            (subst (λ c. Run (Step limits) (g.limit found) (nat_lt 0 (g.fault_count found)) c calls
            (g.content one.later)) (asked.content (at_found sound))
            (subst (λ k. Run (Step limits) (g.limit k) (nat_lt 0 (g.fault_count k)) (g.content k)
            calls (g.content one.later)) one.opened (one.run limits full sound))));
        proper = one.proper;
      }

  module _ {C D S : Type 0} (tells : C → ℕ → C → Type 0) (ask : ServiceAsk) (clock : C)
      (remaining contents : S → Option (List ℕ)) (gives : D → S → S → D → Type 0)
      (fails : D → D → Type 0) (opens : ℕ → D → Type 0) (shuts : ℕ → Type 0) where
    abbrev Serves : ServiceEnd → Type 0
    Serves = ServesPrograms g tells ask clock Begins Ends remaining contents gives fails opens

    served_from : (end : ServiceEnd) (s : Serves end) (items : _) (texts : List (List ℕ))
        (serves : ServesHttp g tells ask.names.prefix.now ask.names.suffix.now s.first items texts
        s.last) → IsOneRun g Begins Ends serves.calls
    served_from end s items texts serves = asked_first s.keeper s.first.1.keeper serves.calls s.opened
        s.asked s.judged.unfailed (made_run g (λ k. k ≡ s.first.1.keeper) Ends s.first.1 s.last.1
        serves.calls (record { full = s.full; keeper = refl }) s.left serves.made
        (proper_requests g tells ask.names.prefix.now ask.names.suffix.now s.first items texts s.last
        serves))

    -- the run of a service until something ended it
    programs_run : (end : ServiceEnd) (s : Serves end) → IsOneRun g Begins Ends (until_calls g tells ask
        clock remaining contents gives fails opens shuts Begins Ends end s)
    programs_run ended.StoreFailed s = served_from ended.StoreFailed s _ _ s.served.1.1.serves
    programs_run ended.NetFailed s = served_from ended.NetFailed s _ _ s.served.1.1.all.serves
    programs_run ended.AllServed s = served_from ended.AllServed s _ _ s.served.1.serves

-- one run of a store is one of a store of whose end less is known
left_run : {K : Type 0} (g : Keeping K) (Begins Ends Late : K → Type 0) {calls : Calls}
    → ((keeper : K) → Ends keeper → Late keeper) → IsOneRun g Begins Ends calls
    → IsOneRun g Begins Late calls
left_run g Begins Ends Late leave one = record {
  keeper = one.keeper;
  later = one.later;
  opened = one.opened;
  closed = leave one.later one.closed;
  stays_sound = one.stays_sound;
  run = one.run;
  proper = one.proper;
}

-- a refused opening comes before
at_opening : {A B C : Type 0} → B ⊎ C → (A ⊎ B) ⊎ C
at_opening (inl refused) = inl (inr refused)
at_opening (inr run) = inr run

-- and so does the file that is read
at_file : {A B C D E : Type 0} → (B × E) ⊎ C ⊎ D → (((A ⊎ B) × E) ⊎ C) ⊎ D
at_file (inl file) = inl (inl (inr file.0, file.1))
at_file (inr (inl refused)) = inl (inr refused)
at_file (inr (inr run)) = inr run

-- Keepers of stores are these, begin so, and end so with what closing them answers.
module _ {K W : Type 0} (stores : Keeping K) (Begins : K → Type 0)
    (Ends : K → Closing → Type 0) (none : StaysNone stores) (more : GoesOn)
    (contents : W → Option (List ℕ)) (writer later : CountedWriter W) where
  -- the run of a store that was closed well
  closed_run : {calls : Calls} → IsOneRun stores Begins (IsClosed Ends) calls
      → IsOneRun stores Begins (WasClosed Ends) calls
  closed_run = left_run stores Begins (IsClosed Ends) (WasClosed Ends) (λ keeper ended. (Ok tt, ended))

  -- of one whose store had not failed before
  whole_run : {calls : Calls} → IsOneRun stores Begins (IsClosedWhole stores Ends) calls
      → IsOneRun stores Begins (IsClosed Ends) calls
  whole_run = left_run stores Begins (IsClosedWhole stores Ends) (IsClosed Ends)
      (λ keeper ended. ended.0)

  -- of one whose closing failed
  unclosed_run : {calls : Calls} (why : ProgramFault)
      → IsOneRun stores Begins (FailedToClose Ends why) calls
      → IsOneRun stores Begins (WasClosed Ends) calls
  unclosed_run why = left_run stores Begins (FailedToClose Ends why) (WasClosed Ends)
      (λ keeper ended. (Err why, ended))

  -- of one whose keeper failed
  failed_run : {calls : Calls} (cause : KeepFault)
      → IsOneRun stores Begins (WasClosedAfter stores Ends cause) calls
      → IsOneRun stores Begins (WasClosed Ends) calls
  failed_run cause = left_run stores Begins (WasClosedAfter stores Ends cause) (WasClosed Ends)
      (λ keeper ended. ended.0)

  -- the run of a program that showed something
  shown_run : (prefix suffix : List ℕ) (Asks : Question → Type 0)
      → ShowsStore stores Begins Ends contents writer later prefix suffix Asks
      → IsOneRun stores Begins (IsClosed Ends) []
  shown_run prefix suffix Asks s = whole_run (asked_run stores Begins (IsClosedWhole stores Ends) none
      _ s.2.1)

  -- of one that wrote a log
  logged_run : (word : Option (Bor (List ℕ))) (lines : Bool)
      → LogsStore stores Begins Ends contents writer later word lines
      → IsOneRun stores Begins (IsClosed Ends) []
  logged_run word lines l = whole_run (log_run stores Begins (IsClosedWhole stores Ends) none _ l.2.1)

  -- of one that read a store
  renewed_run : (IsSo : State → ℕ → Type 0)
      → IsRead stores Begins (IsClosedWhole stores Ends) IsSo → IsOneRun stores Begins (IsClosed Ends) []
  renewed_run IsSo r = whole_run (read_run stores Begins (IsClosedWhole stores Ends) none IsSo r)

  module _ (before after : ℕ) where
    -- of one that imported a table
    table_run : (Holds : List ℕ → Type 0) (IsUnread : ℕ → ProgramFault → Type 0)
        (Asks : ImportAsk → Type 0) (given : Option ℕ)
        (i : ImportsFile stores Begins Ends contents writer later Holds IsUnread before after Asks given
        (EndsBy Done))
        → IsOneRun stores Begins (IsClosed Ends) (told_calls stores Begins (IsClosed Ends) Holds IsUnread
        before after i.0 given i.4.0 i.4.1)
    table_run Holds IsUnread Asks given i = elim i.4.1 as (λ told. IsOneRun stores Begins (IsClosed Ends)
        (told_calls stores Begins (IsClosed Ends) Holds IsUnread before after i.0 given i.4.0 told)) [
          | inl it ↦ import_run stores Begins (IsClosed Ends) none more i.0 it.0 it.1 i.4.0 it.4
          | inr bad ↦ absurd (not_done bad.0 i.4.2.0 (told_as bad.0 i.4.0 i.4.2.0 bad.2 i.4.2.1) (sym i.4.2.5 ∙ i.3))
        ]

    -- of one whose import was refused, unless its table tells no rows
    refused_run : (Holds : List ℕ → List ℕ → Type 0)
        (IsUnread : List ℕ → ℕ → ProgramFault → Type 0) (file ring caller number csv : Bor (List ℕ))
        (Asks : ImportAsk → Type 0) (given : Option ℕ)
        (i : ImportsFile stores Begins Ends contents writer later (Holds csv.now) (IsUnread csv.now) before
        after Asks given (EndsBy Refused))
        → TellsBadTable contents writer later Holds IsUnread before after
        (task.Import file ring caller number csv given)
        ⊎ IsOneRun stores Begins (IsClosed Ends) (told_calls stores Begins (IsClosed Ends)
        (Holds csv.now) (IsUnread csv.now) before after i.0 given i.4.0 i.4.1)
    refused_run Holds IsUnread file ring caller number csv Asks given i = elim i.4.1 as
        (λ told. TellsBadTable contents writer later Holds IsUnread before after
        (task.Import file ring caller number csv given)
        ⊎ IsOneRun stores Begins (IsClosed Ends) (told_calls stores Begins (IsClosed Ends)
        (Holds csv.now) (IsUnread csv.now) before after i.0 given i.4.0 told)) [
          | inl it ↦ inr (import_run stores Begins (IsClosed Ends) none more i.0 it.0 it.1 i.4.0 it.4)
          | inr bad ↦ inl (
            bad.0,
            i.1,
            bad.1,
            subst (λ t. WritesTold contents writer later t i.1) bad.2 i.4.2,
            bad.3,
          )
        ]

    module _ (Refuses : ProgramFault → Type 0) where
      -- the store was refused and no other opened, or run once
      abbrev OpensOnce : ProgramFault → Calls → Type 0
      OpensOnce why calls = ((Refuses why × IsStoreFault why) × OpensOne before after)
          ⊎ IsOneRun stores Begins (WasClosed Ends) calls

      lines_failed : {R : Type 0} (remaining : R → Option (List ℕ))
          (reader late_reader : CountedReader R) (why : ProgramFault) → OpensOne before after
          → (failed : FailsLines stores Begins Ends remaining contents reader late_reader writer later
          Refuses why)
          → OpensOnce why (run_calls stores Begins Ends remaining contents reader late_reader writer
          later Refuses why failed)
      lines_failed remaining reader late_reader why one (inl (cause, is, stopped)) = inr (stopped_run
          stores Begins (WasClosed Ends) none remaining contents reader late_reader writer later cause
          stopped)
      lines_failed remaining reader late_reader why one (inr (inl refused)) =
          inl ((refused.0, refused.1), one)
      lines_failed remaining reader late_reader why one (inr (inr (is, answers))) = inr (unclosed_run why
          (lines_run stores Begins (FailedToClose Ends why) none remaining contents reader late_reader
          writer later answers))

      serve_failed : (given : Option ℕ) (names : HashNames) (port count : ℕ) (why : ProgramFault)
          → OpensOne before after
          → (failed : FailsToServePort stores Begins Ends given names Refuses port count why)
          → OpensOnce why (serve_calls stores Begins Ends given names Refuses port count why failed)
      serve_failed given names port count why one (inl refused) = inl (refused, one)
      serve_failed given names port count why one (inr (inl (is, served))) = inr (unclosed_run why
          (served_run stores Begins (FailedToClose Ends why) none given names port count served))
      serve_failed given names port count why one (inr (inr (is, served))) = inr (fewer_run stores Begins
          (WasClosed Ends) none given names tcp_remaining accepts_tcp AcceptsNone
          (λ _ server. HasAcceptedNone server) shuts_tcp port count served)

      stops_once : {C D S : Type 0} (tells : C → ℕ → C → Type 0) (ask : ServiceAsk) (clock : C)
          (remaining sent : S → Option (List ℕ)) (gives : D → S → S → D → Type 0)
          (fails : D → D → Type 0) (opens : ℕ → D → Type 0) (shuts : ℕ → Type 0) (why : ProgramFault)
          → OpensOne before after
          → (stopped : StopsService stores tells Begins Ends ask clock remaining sent gives fails
          opens shuts Refuses why)
          → OpensOnce why (stops_calls stores tells ask clock remaining sent gives fails opens shuts
          Begins Ends Refuses why stopped)
      stops_once tells ask clock remaining sent gives fails opens shuts why one (inl refused) =
          inl (refused, one)
      stops_once tells ask clock remaining sent gives fails opens shuts why one (inr (inl never)) =
          inr (still_run stores Begins (WasClosed Ends) none never.keeper never.later never.opened
          never.left never.asked.sound never.asked.content)
      stops_once tells ask clock remaining sent gives fails opens shuts why one
          (inr (inr (end, is, served))) = inr (programs_run stores Begins (WasClosed Ends) tells ask
          clock remaining sent gives fails opens shuts end served)

      service_failed : (t : Task) (why : ProgramFault) → OpensOne before after
          → (stopped : StopsOnMachine stores Begins Ends Refuses t why)
          → OpensOnce why (service_calls stores Begins Ends Refuses t why stopped)
      service_failed t why one stopped = stops_once TellsGiven stopped.ask stopped.clock tcp_remaining
          tcp_contents accepts_tcp AcceptsNone (λ _ server. HasAcceptedNone server) shuts_tcp why one
          stopped.stops

      loop_failed : (given : Option ℕ) (names : HashNames) (why : ProgramFault)
          → OpensOne before after
          → (failed : FailsToLoop stores Begins Ends given names contents writer later Refuses why)
          → OpensOnce why (stopped_loop_calls stores Begins Ends given names contents writer later
          Refuses why failed)
      loop_failed given names why one (inl refused) = inl ((refused.0, refused.1), one)
      loop_failed given names why one (inr (inl (cause, is, stopped))) = inr (fault_run stores Begins
          (WasClosed Ends) none given names stopped.0.first stopped.0.last stopped.0.opened
          stopped.0.left (write_faults writer) (write_faults later) cause stopped.0.led)
      loop_failed given names why one (inr (inr (is, looped))) = inr (unclosed_run why (looped_run stores
          Begins (FailedToClose Ends why) none given names looped.0))

      nothing_shown : (prefix suffix : List ℕ) (question : Question) (why : ProgramFault)
          → ShowsNothing stores Begins Ends prefix suffix question why
          → IsOneRun stores Begins (WasClosed Ends) []
      nothing_shown prefix suffix question why (inl failed) = failed_run failed.0 (asked_run stores
          Begins (WasClosedAfter stores Ends failed.0) none _ failed.2)
      nothing_shown prefix suffix question why (inr (inl closed)) = unclosed_run why (asked_run stores
          Begins (FailedToClose Ends why) none _ closed.1.1)
      nothing_shown prefix suffix question why (inr (inr hidden)) = asked_run stores Begins
          (WasClosed Ends) none _ hidden

      show_failed : (prefix suffix : List ℕ) (Asks : Question → Type 0) (why : ProgramFault)
          → OpensOne before after
          → FailsToShowStore stores Begins Ends contents writer later Refuses prefix suffix Asks why
          → OpensOnce why []
      show_failed prefix suffix Asks why one f = elim f.2 [
        | inl refused ↦ inl ((refused.0, refused.1), one)
        | inr rest ↦ elim rest [
          | inl nothing ↦ inr (nothing_shown prefix suffix f.0 why nothing.0)
          | inr unwritten ↦ inr (closed_run (whole_run (asked_run stores Begins
              (IsClosedWhole stores Ends) none _ unwritten.1.1)))
        ]
      ]

      -- of one that failed to write a log
      log_failed : (word : Option (Bor (List ℕ))) (lines : Bool) (why : ProgramFault)
          → OpensOne before after
          → FailsToLogStore stores Begins Ends contents writer later Refuses word lines why
          → OpensOnce why []
      log_failed word lines why one f = elim f.2 [
        | inl refused ↦ inl ((refused.0, refused.1), one)
        | inr rest ↦ elim rest [
          | inl failed ↦ inr (failed_run failed.0 (log_run stores Begins
              (WasClosedAfter stores Ends failed.0) none _ failed.3.1))
          | inr others ↦ elim others [
            | inl closed ↦ inr (unclosed_run why (log_run stores Begins (FailedToClose Ends why) none
                _ closed.1.1))
            | inr unwritten ↦ inr (log_run stores Begins (WasClosed Ends) none _ unwritten.2.1)
          ]
        ]
      ]

      old_unread : (why : ProgramFault) → OpensOne before after
          → FailsToRead stores Begins Ends Refuses why → OpensOnce why []
      old_unread why one (inl refused) = inl (refused, one)
      old_unread why one (inr (inl failed)) = inr (failed_run failed.0 (read_run stores Begins
          (WasClosedAfter stores Ends failed.0) none _ failed.2))
      old_unread why one (inr (inr closed)) = inr (unclosed_run why (read_run stores Begins
          (FailedToClose Ends why) none _ closed.1))

      renew_failed : (IsUnmade : State → ℕ → ProgramFault → Type 0) (why : ProgramFault)
          → FailsToRenew stores Begins Ends Refuses IsUnmade before after why → OpensOnce why []
      renew_failed IsUnmade why (inl unread) = old_unread why unread.1 unread.0
      renew_failed IsUnmade why (inr unmade) = inr (closed_run (renewed_run _ unmade.1))

      found_failed : (Is : FoundFault → Type 0) (Unfounded : FoundFault → State → ℕ → Type 0)
          (IsUnmade : State → ℕ → Type 0) (why : ProgramFault)
          → (FailsToRead stores Begins Ends Refuses why × OpensOne before after)
          ⊎ (((cause : FoundFault) × Is cause
          × IsRead stores Begins (IsClosedWhole stores Ends) (Unfounded cause)) × OpensOne before after)
          ⊎ (IsStoreFault why × IsRead stores Begins (IsClosedWhole stores Ends) IsUnmade
          × OpensTwo before after)
          → OpensOnce why []
      found_failed Is Unfounded IsUnmade why (inl unread) = old_unread why unread.1 unread.0
      found_failed Is Unfounded IsUnmade why (inr (inl unfounded)) =
          inr (closed_run (renewed_run _ unfounded.0.2))
      found_failed Is Unfounded IsUnmade why (inr (inr unmade)) =
          inr (closed_run (renewed_run _ unmade.1))

      module _ (Holds : List ℕ → List ℕ → Type 0) (IsUnread : List ℕ → ℕ → ProgramFault → Type 0) where
        -- the fault is one of the file that a task reads first, or its store was refused or run once
        abbrev ReadsFirst : Task → ProgramFault → Calls → Type 0
        ReadsFirst t why calls = (ComesOfFile contents writer later Holds IsUnread before after t why
            × OpensNone before after) ⊎ OpensOnce why calls

        input_failed : (file input : Bor (List ℕ)) (given : Option ℕ) (names : HashNames)
            (why : ProgramFault)
            (failed : FailsToLoopInput stores Begins Ends given names contents writer later Refuses
            (IsUnread input.now) before after why)
            → ReadsFirst (task.Loop file input given names) why (loop_calls stores Begins Ends given names
            contents writer later Refuses (IsUnread input.now) before after why failed)
        input_failed file input given names why (inl unread) =
            inl ((unread.0, unread.1), unread.3)
        input_failed file input given names why (inr (failed, one)) =
            inr (loop_failed given names why one failed)

        module _ (file ring caller number csv : Bor (List ℕ)) (given : Option ℕ) (ask : ImportAsk)
          where
            abbrev ImportsFirst : ProgramFault → Calls → Type 0
            ImportsFirst = ReadsFirst (task.Import file ring caller number csv given)

            deliver_failed : (rows : List Row) (hour : ℕ) (why : ProgramFault) → OpensOne before after
                → (failed : FailsToDeliver stores Begins Ends Refuses ask rows hour why)
                → ImportsFirst why (undelivered_calls stores Begins Ends Refuses ask rows hour why failed)
            deliver_failed rows hour why one (inl refused) = inr (inl (refused, one))
            deliver_failed rows hour why one (inr (is, (t, imports))) = inr (inr (unclosed_run why
                (import_run stores Begins (FailedToClose Ends why) none more ask rows hour t imports)))

            nothing_told : (why : ProgramFault) (nothing : TellsNothing stores Begins Ends Refuses
                (Holds csv.now) (IsUnread csv.now) before after ask given why)
                → ImportsFirst why (untold_calls stores Begins Ends Refuses (Holds csv.now)
                (IsUnread csv.now) before after ask given why nothing)
            nothing_told why (inl lost) = inl (inl lost.0, lost.1)
            nothing_told why (inr (rows, hour, holds, tells, failed, one)) =
                deliver_failed rows hour why one failed

            telling_failed : (why : ProgramFault) (t : Told) → why ≡ fault.WriteFailed
                → (told : TellsImport stores Begins (IsClosed Ends) (Holds csv.now) (IsUnread csv.now)
                before after ask given t)
                → FailsTold contents writer later t → ImportsFirst why (told_calls stores Begins
                (IsClosed Ends) (Holds csv.now) (IsUnread csv.now) before after ask given t told)
            telling_failed why t is (inl it) failed = inr (inr (closed_run (import_run stores Begins
                (IsClosed Ends) none more ask it.0 it.1 t it.4)))
            telling_failed why t is (inr bad) failed = inl (
              inr (is, (bad.0, bad.1, subst (FailsTold contents writer later) bad.2 failed)),
              bad.3,
            )

            import_failed : (why : ProgramFault) (failed : FailsToImport stores Begins Ends Refuses
                (Holds csv.now) (IsUnread csv.now) before after contents writer later ask given why)
                → ImportsFirst why (unimported_calls stores Begins Ends Refuses (Holds csv.now)
                (IsUnread csv.now) before after ask given contents writer later why failed)
            import_failed why (inl (nothing, same)) = nothing_told why nothing
            import_failed why (inr (is, (t, told, unwritten))) = telling_failed why t is told unwritten

module _ {M K R W : Type 0} (memory : Keeping M) (stores : Keeping K)
    (Begins : List ℕ → K → Type 0) (Ends : K → Closing → Type 0) (remaining : R → Option (List ℕ))
    (contents : W → Option (List ℕ)) (none : StaysNone stores) (more : GoesOn)
    (reader late_reader : CountedReader R) (writer later : CountedWriter W)
    (Holds : List ℕ → List ℕ → Type 0) (IsUnread : List ℕ → ℕ → ProgramFault → Type 0)
    (before after : ℕ) where
  module _ (IsMade : List ℕ → State → ℕ → Type 0) where
    -- Each program that did what it was asked for made one run of the store that it is over.
    pub done_once : (t : Task) (done : EndsSo memory stores Begins Ends remaining contents reader
        late_reader writer later Holds IsUnread before after IsMade t Done)
        → RunsStore stores Begins (IsClosed Ends) (store_of t)
        (ended_calls memory stores Begins Ends Holds IsUnread remaining contents reader late_reader
        writer later before after IsMade t Done done)
    done_once (task.Run None) all = tt
    done_once (task.Run (Some file)) all = lines_run stores (Begins file.now) (IsClosed Ends) none
        remaining contents reader late_reader writer later all.0
    done_once (task.Serve file port count given names) all = served_run stores (Begins file.now)
        (IsClosed Ends) none given names port count all.2
    done_once (task.Service file port hosts hour_ok names) all = absurd all
    done_once (task.Loop file input given names) all = looped_run stores (Begins file.now)
        (IsClosed Ends) none given names all.1.2.0
    done_once (task.Import file ring caller number csv given) all = table_run stores
        (Begins file.now) Ends none more contents writer later before after (Holds csv.now) (IsUnread csv.now) _
        given all.1
    done_once (task.Table file ring) all = shown_run stores (Begins file.now) Ends none more contents
        writer later [] [] (AsksShown (task.Table file ring)) all.1
    done_once (task.Show file what) all = shown_run stores (Begins file.now) Ends none more contents
        writer later [] [] (AsksShown (task.Show file what)) all.1
    done_once (task.Log file from lines) all = logged_run stores (Begins file.now) Ends none more
        contents writer later from lines all.1
    done_once (task.Nodes file ring account container object names) all = shown_run stores
        (Begins file.now) Ends none more contents writer later names.prefix.now names.suffix.now
        (AsksShown (task.Nodes file ring account container object names)) all.1
    done_once (task.Export file ring version written) all = shown_run stores (Begins file.now) Ends
        none more contents writer later [] [] (AsksShown (task.Export file ring version written))
        all.1
    done_once (task.Renew file fresh) all = renewed_run stores (Begins file.now) Ends none more contents
        writer later _ all.2
    done_once (task.Found fresh texts min_hours given None) all = tt
    done_once (task.Found fresh texts min_hours given (Some file)) all = renewed_run stores
        (Begins file.now) Ends none more contents writer later _ all.2.founds
    done_once task.Version all = tt

    -- So did an import that was refused, unless its table tells no rows.
    pub refused_once : (t : Task) (refused : EndsSo memory stores Begins Ends remaining contents reader
        late_reader writer later Holds IsUnread before after IsMade t Refused)
        → TellsBadTable contents writer later Holds IsUnread before after t
        ⊎ RunsStore stores Begins (IsClosed Ends) (store_of t)
        (ended_calls memory stores Begins Ends Holds IsUnread remaining contents reader late_reader
        writer later before after IsMade t Refused refused)
    refused_once (task.Import file ring caller number csv given) all = refused_run stores
        (Begins file.now) Ends none more contents writer later before after Holds IsUnread file ring caller number
        csv _ given all.1
    refused_once (task.Run file) all = absurd all
    refused_once (task.Serve file port count given names) all = absurd all
    refused_once (task.Service file port hosts hour_ok names) all = absurd all
    refused_once (task.Loop file input given names) all = absurd all
    refused_once (task.Table file ring) all = absurd all
    refused_once (task.Show file what) all = absurd all
    refused_once (task.Log file from lines) all = absurd all
    refused_once (task.Nodes file ring account container object names) all = absurd all
    refused_once (task.Export file ring version written) all = absurd all
    refused_once (task.Renew file fresh) all = absurd all
    refused_once (task.Found fresh texts min_hours given from) all = absurd all
    refused_once task.Version all = absurd all

  module _ (Refuses : List ℕ → ProgramFault → Type 0)
      (IsUnmade : List ℕ → State → ℕ → ProgramFault → Type 0) where
    -- founding rings beside those of a store failed
    found_first : (fresh file : Bor (List ℕ)) (names : List (List ℕ)) (min_hours : ℕ)
        (given : Option ℕ) (why : ProgramFault)
        → FailsToFound stores Begins Ends Holds Refuses (IsUnmade fresh.now) before after IsUnread names
        min_hours given (Some file) why
        → ((AreNoRings Holds IsUnread names why ⊎ IsMissing IsUnread (Some file) why)
        × OpensNone before after)
        ⊎ ((Refuses file.now why × IsStoreFault why) × OpensOne before after)
        ⊎ IsOneRun stores (Begins file.now) (WasClosed Ends) []
    found_first fresh file names min_hours given why (inl (texts, none)) = inl (inl texts, none)
    found_first fresh file names min_hours given why (inr (inl (missing, none))) =
        inl (inr missing, none)
    found_first fresh file names min_hours given why (inr (inr (terms, asks, snapshots, hold, beside))) = inr
        (found_failed stores (Begins file.now) Ends none more contents writer later before after
        (Refuses file.now) (λ cause. why ≡ found_fault cause)
        (λ cause old hour. AreUnfounded terms old snapshots cause)
        (λ old hour. (rings : State) × AreFounded terms old snapshots rings
        × IsUnmade fresh.now rings (max hour terms.hour) why) why beside)

    -- the work of a task failed
    work_failed : (t : Task) (why : ProgramFault) (failed : FailsToDo memory stores Begins Ends
        remaining contents reader late_reader writer later Holds IsUnread before after Refuses IsUnmade t
        why)
        → FailsBefore contents writer later Holds IsUnread before after Refuses t why
        ⊎ RunsStore stores Begins (WasClosed Ends) (store_of t)
        (work_calls memory stores Begins Ends Holds IsUnread remaining contents reader late_reader
        writer later before after Refuses IsUnmade t why failed)
    work_failed (task.Run None) why all = inr tt
    work_failed (task.Run (Some file)) why all = at_opening (lines_failed stores (Begins file.now) Ends
        none more contents writer later before after (Refuses file.now) remaining reader late_reader why
        all.1 all.0)
    work_failed (task.Serve file port count given names) why all = at_opening (serve_failed stores
        (Begins file.now) Ends none more contents writer later before after (Refuses file.now) given names port
        count why all.3 all.2)
    work_failed (task.Service file port hosts hour_ok names) why all = at_opening (service_failed stores
        (Begins file.now) Ends none more contents writer later before after (Refuses file.now)
        (task.Service file port hosts hour_ok names) why all.3 all.2)
    work_failed (task.Loop file input given names) why all = at_file (input_failed stores
        (Begins file.now) Ends none more contents writer later before after (Refuses file.now) Holds IsUnread file
        input given names why all.1)
    work_failed (task.Import file ring caller number csv given) why all = at_file (import_failed stores
        (Begins file.now) Ends none more contents writer later before after (Refuses file.now) Holds IsUnread file
        ring caller number csv given all.1.0 why all.1.2)
    work_failed (task.Table file ring) why all = at_opening (show_failed stores (Begins file.now) Ends
        none more contents writer later before after (Refuses file.now) [] [] (AsksShown (task.Table file ring)) why
        all.2 all.1)
    work_failed (task.Show file what) why all = at_opening (show_failed stores (Begins file.now) Ends
        none more contents writer later before after (Refuses file.now) [] [] (AsksShown (task.Show file what)) why
        all.2 all.1)
    work_failed (task.Log file from lines) why all = at_opening (log_failed stores (Begins file.now)
        Ends none more contents writer later before after (Refuses file.now) from lines why all.2 all.1)
    work_failed (task.Nodes file ring account container object names) why all = at_opening (show_failed
        stores (Begins file.now) Ends none more contents writer later before after (Refuses file.now)
        names.prefix.now names.suffix.now
        (AsksShown (task.Nodes file ring account container object names)) why all.2 all.1)
    work_failed (task.Export file ring version written) why all = at_opening (show_failed stores
        (Begins file.now) Ends none more contents writer later before after (Refuses file.now) [] []
        (AsksShown (task.Export file ring version written)) why all.2 all.1)
    work_failed (task.Renew file fresh) why all = at_opening (renew_failed stores (Begins file.now) Ends
        none more contents writer later before after (Refuses file.now) (IsUnmade fresh.now) why all.2)
    work_failed (task.Found fresh texts min_hours given None) why all = inr tt
    work_failed (task.Found fresh texts min_hours given (Some file)) why all = at_file (found_first
        fresh file (texts_given texts.items) min_hours given why all.2)
    work_failed task.Version why all = inr tt

    -- Each program that failed made one run of its store too, or the fault came before.
    pub failed_once : (t : Task) (why : ProgramFault) (failed : FailsSo memory stores Begins Ends
        remaining contents reader late_reader writer later Holds IsUnread before after Refuses IsUnmade t
        why)
        → FailsBefore contents writer later Holds IsUnread before after Refuses t why
        ⊎ RunsStore stores Begins (WasClosed Ends) (store_of t)
        (failed_calls memory stores Begins Ends Holds IsUnread remaining contents reader late_reader
        writer later before after Refuses IsUnmade t why failed)
    failed_once t why (inl words) = inl (inl (inl words.0, words.3))
    failed_once t why (inr work) = work_failed t why work

-- one more run after a life
lives_on : (limits : Limits) (limit : ℕ) (first mid last : Held) (runs : List Calls) (calls : Calls)
    → Lives limits limit first runs mid → Run (Step limits) limit false mid calls last
    → Lives limits limit first (runs ++ calls ∷ []) last
lives_on limits limit first mid last [] calls same run = (
  last,
  subst (λ c. Run (Step limits) limit false c calls last) same run,
  refl,
)
lives_on limits limit first mid last (before ∷ later) calls lives run = (
  lives.0,
  lives.1,
  lives_on limits limit lives.0 mid last later calls lives.2 run,
)

-- the run of a program that found what the one before it left
pub one_more : {K : Type 0} (g : Keeping K) (Begins : List ℕ → K → Type 0) (Ends : K → Type 0)
    → ((name : List ℕ) (keeper : K) → Begins name keeper
    → (g.fault_count keeper ≡ 0) × (g.limit keeper ≡ most_numbers))
    → GoesOnWithLife g Begins Ends
one_more g Begins Ends whole = λ name limits first mid runs calls full lives one sound found.
    let is = whole name one.keeper one.opened in
    lives_on limits most_numbers first mid (g.content one.later) runs calls lives
    (subst (λ c. Run (Step limits) most_numbers false c calls (g.content one.later)) found
    (subst (λ l. Run (Step limits) l false (g.content one.keeper) calls (g.content one.later))
    is.1
    (subst (λ n. Run (Step limits) (g.limit one.keeper) (nat_lt 0 n) (g.content one.keeper)
    calls (g.content one.later)) is.0 (one.run limits full sound))))

-- what a crash leaves in a call is what a run leaves that ends with it
pub crash_run : {K : Type 0} (g : Keeping K) → GoesOn → CrashEndsRun g
crash_run g more = λ limits limit first mid calls call keeper run none. leaves_map
    (g.may_leave keeper) (Called (Step limits) limit false mid call)
    (Run (Step limits) limit false first (calls ++ call ∷ []))
    (λ left called. more (record { limits = limits }) limit false first mid left calls call run
    (subst (λ b. Called (Step limits) limit b mid call left)
    (sym (ap (λ (o : Option (Call Command Reply)). is_some o) none)) called))
