-- Which calls of its store's book a task made: those that its lines or its requests led to, or the
-- delivery of its import.
use Rattle.std.specs.Prelude.{◌∷◌, [], ℕ, List, Option, Some}
use mathlib.Core.Logic.{inl, inr}
use Rattle.byte_streams.specs.Counted.{write_faults}
use Rattle.byte_streams.specs.declared.counted.CountedReader.{CountedReader}
use Rattle.byte_streams.specs.declared.counted.CountedWriter.{CountedWriter}
use Rattle.byte_streams.specs.declared.fault.StreamFault.{StreamFault}
use Rattle.byte_streams.specs.declared.fault.StreamFault.TheVariants as stream
use Rattle.builder.specs.Life.{BookCalls}
use Rattle.builder.specs.Step.{State}
use Rattle.command_line.specs.declared.task.Task.{Task}
use Rattle.command_line.specs.declared.task.Task.TheVariants as task
use Rattle.http_messages.specs.declared.audience.Audience.TheVariants.{Anyone}
use Rattle.http_sockets.specs.Connections.{AnswersFirst, LoopFails, PortFailed}
use Rattle.http_sockets.specs.declared.fault.ServeFault.{ServeFault}
use Rattle.http_sockets.specs.declared.fault.ServeFault.TheVariants as serving
use Rattle.http_sockets.specs.declared.fault.ServiceEnd.{ServiceEnd}
use Rattle.http_sockets.specs.declared.fault.ServiceEnd.TheVariants as ended
use Rattle.http_sockets.specs.Hours.{TellsGiven}
use Rattle.http_sockets.specs.Listening.{AcceptsNone, HasAcceptedNone}
use Rattle.path_lookup.specs.declared.hash.HashNames.{HashNames}
use Rattle.request_book.specs.Call.{Deliver}
use Rattle.ring_book.specs.Book.{Keeping}
use Rattle.ring_messages.specs.declared.told.Told.{Told}
use Rattle.ring_words.specs.declared.command.Act.TheVariants as act
use Rattle.ring_words.specs.declared.device.Row.{Row}
use Rattle.program_stores.specs.Stores.{Closing}
use Rattle.programs.specs.Begun.{FailedToClose, IsClosed, WasClosed}
use Rattle.programs.specs.Importing.{FailsToDeliver, FailsToImport, Imports, TellsImport}
use Rattle.programs.specs.Importing.{TellsNothing}
use Rattle.programs.specs.Performed.{EndsSo, FailsSo, FailsToDo}
use Rattle.programs.specs.Running.{AnswersLines, FailsLines, StopsLines}
use Rattle.programs.specs.Service.{ServesPrograms, StopsOnMachine, StopsService, tcp_contents}
use Rattle.programs.specs.Serving.{FailsToLoop, FailsToLoopInput, FailsToServePort, ServesFewer}
use Rattle.programs.specs.Serving.{ServesOne, ServesPort, Service, accepts_tcp, shuts_tcp}
use Rattle.programs.specs.Serving.{tcp_remaining}
use Rattle.program_stores.specs.declared.faults.ProgramFault.{ProgramFault}
use Rattle.programs.specs.declared.importing.ImportAsk.{ImportAsk}
use Rattle.programs.specs.declared.service.ServiceAsk.{ServiceAsk}
use Rattle.programs.specs.declared.performing.Ending.{Ending}
use Rattle.programs.specs.declared.performing.Ending.TheVariants.{Done}

-- A task was over a keeper that begins so and is left so.
module _ {K : Type 0} (g : Keeping K) (Begins Ends : K → Type 0) where
  module _ {R W : Type 0} (remaining : R → Option (List ℕ)) (contents : W → Option (List ℕ))
      (reader late_reader : CountedReader R) (writer later : CountedWriter W) where
    -- the calls that its lines led to
    abbrev pub line_calls : AnswersLines g Begins Ends remaining contents reader late_reader writer
        later → BookCalls
    line_calls ((count, (old, new, begun, left, served, safe)), untroubled, flushed) =
        served.get.calls

    -- those that the lines before a fault of a stream led to
    abbrev pub stopped_calls : (why : StreamFault) → StopsLines g Begins Ends remaining contents
        reader late_reader writer later why → BookCalls
    stopped_calls stream.ReadFailed ((old, new, begun, left, stopped, safe), caused, flushed) =
        stopped.get.calls
    stopped_calls stream.WriteFailed ((old, new, begun, left, stopped, safe), caused, flushed) =
        stopped.get.calls
    stopped_calls stream.NoMemory all = []

  -- the delivery of an import
  abbrev pub import_calls : (ask : ImportAsk) (rows : List Row) (hour : ℕ) (t : Told)
      → Imports g Begins Ends ask rows hour t → BookCalls
  import_calls ask rows hour t imports = Deliver (record {
    hour = hour;
    key = ask.key;
    command = record { ring = ask.ring; act = act.Import rows };
  }) imports.answer ∷ []

  -- that of one whose table tells rows, and none of one whose table tells none
  abbrev pub told_calls : (Holds : List ℕ → Type 0) (IsUnread : ℕ → ProgramFault → Type 0)
      (before after : ℕ) (ask : ImportAsk) (given : Option ℕ) (t : Told)
      → TellsImport g Begins Ends Holds IsUnread before after ask given t → BookCalls
  told_calls Holds IsUnread before after ask given t (inl (rows, hour, holds, tells, imports, one)) =
      import_calls ask rows hour t imports
  told_calls Holds IsUnread before after ask given t (inr bad) = []

  module _ (given : Option ℕ) (names : HashNames) where
    -- the calls that the requests of a port's connections led to
    abbrev pub port_calls : (port count : ℕ) → ServesPort g Begins Ends given names port count
        → BookCalls
    port_calls port count served = served.led.3.serves.calls

    -- those of a port that couldn't be had, or of its connections before none came any more
    abbrev pub failed_port_calls : {D S : Type 0} (remaining : S → Option (List ℕ))
        (gives : D → S → S → D → Type 0) (fails : D → D → Type 0) (opens : ℕ → D → Type 0)
        (shuts : ℕ → Type 0) (port count : ℕ) (first last : Service K)
        → PortFailed g TellsGiven names.prefix.now names.suffix.now (AnswersFirst Anyone remaining)
        gives fails opens shuts port count first last → BookCalls
    failed_port_calls remaining gives fails opens shuts port count first last (inl shut) = []
    failed_port_calls remaining gives fails opens shuts port count first last
        (inr (door, later, opened, some)) = some.then.all.serves.calls

    -- so they are of a service of which this is known
    abbrev pub fewer_calls : {D S : Type 0} (remaining : S → Option (List ℕ))
        (gives : D → S → S → D → Type 0) (fails : D → D → Type 0) (opens : ℕ → D → Type 0)
        (shuts : ℕ → Type 0) (port count : ℕ)
        → ServesFewer g Begins Ends given names remaining gives fails opens shuts port count
        → BookCalls
    fewer_calls remaining gives fails opens shuts port count served = failed_port_calls remaining
        gives fails opens shuts port count served.first served.last served.led

    -- those of a connection of the machine with itself
    abbrev pub looped_calls : ServesOne g Begins Ends given names → BookCalls
    looped_calls served = served.led.0.serves.calls

    -- those of such a connection, if there was one, of which a fault of its serving is known
    abbrev pub failed_loop_calls : (first last : Service K) (before after : ℕ) (why : ServeFault)
        → LoopFails g TellsGiven names.prefix.now names.suffix.now (AnswersFirst Anyone tcp_remaining)
        first last before after why → BookCalls
    failed_loop_calls first last before after serving.NetFailed (same, inl none) = []
    failed_loop_calls first last before after serving.NetFailed (same, inr one) = one.serves.calls
    failed_loop_calls first last before after (serving.Stream stream.ReadFailed) (same, (one, is)) =
        one.serves.calls
    failed_loop_calls first last before after (serving.Stream stream.WriteFailed) (inl (more, one)) =
        one.serves.calls
    failed_loop_calls first last before after (serving.Stream stream.WriteFailed)
        (inr (same, (one, is))) = one.serves.calls
    failed_loop_calls first last before after (serving.Stream stream.NoMemory) (same, inl none) = []
    failed_loop_calls first last before after (serving.Stream stream.NoMemory)
        (same, inr (one, is)) = one.serves.calls

-- A service was asked for, by this clock. The streams of connections tell so of their bytes; doors
-- give them so, or fail so to give one; and ports open them so, or can't be had.
module _ {K C D S : Type 0} (g : Keeping K) (tells : C → ℕ → C → Type 0) (ask : ServiceAsk) (clock : C)
    (remaining contents : S → Option (List ℕ)) (gives : D → S → S → D → Type 0)
    (fails : D → D → Type 0) (opens : ℕ → D → Type 0) (shuts : ℕ → Type 0) where
  -- the calls that the requests of its connections led to until something ended it
  abbrev pub until_calls : (Begins Ends : K → Type 0) (end : ServiceEnd)
      → ServesPrograms g tells ask clock Begins Ends remaining contents gives fails opens end
      → BookCalls
  until_calls Begins Ends ended.StoreFailed served = served.served.1.1.serves.calls
  until_calls Begins Ends ended.NetFailed served = served.served.1.1.all.serves.calls
  until_calls Begins Ends ended.AllServed served = served.served.1.serves.calls

  -- so they are where it stopped, if it began
  abbrev pub stops_calls : (Begins : K → Type 0) (Ends : K → Closing → Type 0)
      (Refuses : ProgramFault → Type 0) (why : ProgramFault)
      → StopsService g tells Begins Ends ask clock remaining contents gives fails opens shuts Refuses
      why → BookCalls
  stops_calls Begins Ends Refuses why (inl refused) = []
  stops_calls Begins Ends Refuses why (inr (inl never)) = []
  stops_calls Begins Ends Refuses why (inr (inr (end, is, served))) =
      until_calls Begins (WasClosed Ends) end served

-- A task failed over a keeper that begins so, and ends so with what closing it answers.
module _ {K : Type 0} (g : Keeping K) (Begins : K → Type 0) (Ends : K → Closing → Type 0) where
  -- the calls of a program that answered lines
  abbrev pub run_calls : {R W : Type 0} (remaining : R → Option (List ℕ))
      (contents : W → Option (List ℕ)) (reader late_reader : CountedReader R)
      (writer later : CountedWriter W) (Refuses : ProgramFault → Type 0) (why : ProgramFault)
      → FailsLines g Begins Ends remaining contents reader late_reader writer later Refuses why
      → BookCalls
  run_calls remaining contents reader late_reader writer later Refuses why (inl (cause, is, stopped)) =
      stopped_calls g Begins (WasClosed Ends) remaining contents reader late_reader writer later cause
      stopped
  run_calls remaining contents reader late_reader writer later Refuses why (inr (inl refused)) = []
  run_calls remaining contents reader late_reader writer later Refuses why (inr (inr (is, answers))) =
      line_calls g Begins (FailedToClose Ends why) remaining contents reader late_reader writer later
      answers

  module _ (Refuses : ProgramFault → Type 0) where
    -- of a service that was served until something ended it
    abbrev pub service_calls : (t : Task) (why : ProgramFault)
        → StopsOnMachine g Begins Ends Refuses t why → BookCalls
    service_calls t why stopped = stops_calls g TellsGiven stopped.ask stopped.clock tcp_remaining
        tcp_contents accepts_tcp AcceptsNone (λ _ server. HasAcceptedNone server) shuts_tcp Begins Ends
        Refuses why stopped.stops

    -- of one that delivered rows
    abbrev pub undelivered_calls : (ask : ImportAsk) (rows : List Row) (hour : ℕ) (why : ProgramFault)
        → FailsToDeliver g Begins Ends Refuses ask rows hour why → BookCalls
    undelivered_calls ask rows hour why (inl refused) = []
    undelivered_calls ask rows hour why (inr (is, (t, imports))) =
        import_calls g Begins (FailedToClose Ends why) ask rows hour t imports

    module _ (Holds : List ℕ → Type 0) (IsUnread : ℕ → ProgramFault → Type 0) (before after : ℕ)
        (ask : ImportAsk) (given : Option ℕ) where
      -- of an import that is told nothing
      abbrev pub untold_calls : (why : ProgramFault)
          → TellsNothing g Begins Ends Refuses Holds IsUnread before after ask given why → BookCalls
      untold_calls why (inl lost) = []
      untold_calls why (inr (rows, hour, holds, tells, undelivered, one)) =
          undelivered_calls ask rows hour why undelivered

      -- of an import
      abbrev pub unimported_calls : {W : Type 0} (contents : W → Option (List ℕ))
          (writer later : CountedWriter W) (why : ProgramFault)
          → FailsToImport g Begins Ends Refuses Holds IsUnread before after contents writer later ask
          given why → BookCalls
      unimported_calls contents writer later why (inl (nothing, same)) = untold_calls why nothing
      unimported_calls contents writer later why (inr (is, (t, told, unwritten))) =
          told_calls g Begins (IsClosed Ends) Holds IsUnread before after ask given t told

  module _ (given : Option ℕ) (names : HashNames) where
    -- of one that served connections
    abbrev pub serve_calls : (Refuses : ProgramFault → Type 0) (port count : ℕ) (why : ProgramFault)
        → FailsToServePort g Begins Ends given names Refuses port count why → BookCalls
    serve_calls Refuses port count why (inl refused) = []
    serve_calls Refuses port count why (inr (inl (is, served))) =
        port_calls g Begins (FailedToClose Ends why) given names port count served
    serve_calls Refuses port count why (inr (inr (is, served))) =
        fewer_calls g Begins (WasClosed Ends) given names tcp_remaining accepts_tcp AcceptsNone
        (λ _ server. HasAcceptedNone server) shuts_tcp port count served

    module _ {W : Type 0} (contents : W → Option (List ℕ)) (writer later : CountedWriter W)
        (Refuses : ProgramFault → Type 0) where
      -- of a loop whose input was read
      abbrev pub stopped_loop_calls : (why : ProgramFault)
          → FailsToLoop g Begins Ends given names contents writer later Refuses why → BookCalls
      stopped_loop_calls why (inl refused) = []
      stopped_loop_calls why (inr (inl (cause, is, stopped))) =
          failed_loop_calls g Begins (WasClosed Ends) given names stopped.0.first stopped.0.last
          (write_faults writer) (write_faults later) cause stopped.0.led
      stopped_loop_calls why (inr (inr (is, looped))) =
          looped_calls g Begins (FailedToClose Ends why) given names looped.0

      -- of a loop
      abbrev pub loop_calls : (IsUnread : ℕ → ProgramFault → Type 0) (before after : ℕ)
          (why : ProgramFault) → FailsToLoopInput g Begins Ends given names contents writer later
          Refuses IsUnread before after why → BookCalls
      loop_calls IsUnread before after why (inl lost) = []
      loop_calls IsUnread before after why (inr (stopped, one)) = stopped_loop_calls why stopped

-- Whatever the streams and the task are, over memory and over stores of which this is said, and of
-- which this many were opened or made before and after.
module _ {M K R W : Type 0} (memory : Keeping M) (stores : Keeping K)
    (Begins : List ℕ → K → Type 0) (Ends : K → Closing → Type 0)
    (Holds : List ℕ → List ℕ → Type 0) (IsUnread : List ℕ → ℕ → ProgramFault → Type 0)
    (remaining : R → Option (List ℕ)) (contents : W → Option (List ℕ))
    (reader late_reader : CountedReader R) (writer later : CountedWriter W) (before after : ℕ) where
  -- the calls that a task made of its store's book where it ended so: none where it only reads, or is
  -- over memory
  abbrev pub ended_calls : (IsMade : List ℕ → State → ℕ → Type 0) (t : Task) (ending : Ending)
      → EndsSo memory stores Begins Ends remaining contents reader late_reader writer later Holds
      IsUnread before after IsMade t ending → BookCalls
  ended_calls IsMade (task.Run (Some file)) Done done =
      line_calls stores (Begins file.now) (IsClosed Ends) remaining contents reader late_reader
      writer later done.0
  ended_calls IsMade (task.Serve file port count given names) Done done =
      port_calls stores (Begins file.now) (IsClosed Ends) given names port count done.2
  ended_calls IsMade (task.Loop file input given names) Done done =
      looped_calls stores (Begins file.now) (IsClosed Ends) given names done.1.2.0
  ended_calls IsMade (task.Import file ring caller number csv given) ending
      (same, (ask, status, asks, is, (t, told, written))) =
      told_calls stores (Begins file.now) (IsClosed Ends) (Holds csv.now) (IsUnread csv.now) before
      after ask given t told
  ended_calls IsMade _ _ done = []

  module _ (Refuses : List ℕ → ProgramFault → Type 0)
      (IsUnmade : List ℕ → State → ℕ → ProgramFault → Type 0) where
    -- so they are of a task whose work failed
    abbrev pub work_calls : (t : Task) (why : ProgramFault) → FailsToDo memory stores Begins Ends
        remaining contents reader late_reader writer later Holds IsUnread before after Refuses IsUnmade
        t why → BookCalls
    work_calls (task.Run (Some file)) why failed =
        run_calls stores (Begins file.now) Ends remaining contents reader late_reader writer later
        (Refuses file.now) why failed.0
    work_calls (task.Serve file port count given names) why failed =
        serve_calls stores (Begins file.now) Ends given names (Refuses file.now) port count why
        failed.2
    work_calls (task.Service file port hosts hour_ok names) why failed =
        service_calls stores (Begins file.now) Ends (Refuses file.now)
        (task.Service file port hosts hour_ok names) why failed.2
    work_calls (task.Loop file input given names) why failed =
        loop_calls stores (Begins file.now) Ends given names contents writer later (Refuses file.now)
        (IsUnread input.now) before after why failed.1
    work_calls (task.Import file ring caller number csv given) why (same, (ask, asks, failed)) =
        unimported_calls stores (Begins file.now) Ends (Refuses file.now) (Holds csv.now)
        (IsUnread csv.now) before after ask given contents writer later why failed
    work_calls _ why failed = []

    -- the calls that a task made of its store's book where it failed so: none where the fault is one
    -- of its words
    abbrev pub failed_calls : (t : Task) (why : ProgramFault) → FailsSo memory stores Begins Ends
        remaining contents reader late_reader writer later Holds IsUnread before after Refuses IsUnmade
        t why → BookCalls
    failed_calls t why (inl words) = []
    failed_calls t why (inr failed) = work_calls t why failed
