-- What the program `service` does.
use Rattle.std.specs.Prelude.{◌≡◌, ◌⊎◌, ◌+◌, ◌++◌, ◌∷◌, ◌&&◌, ◌||◌, [], Bool, List, None, Option}
use Rattle.std.specs.Prelude.{codes, decimal, false, length, nat_lt, not, true, ℕ}
use mathlib.Core.Logic.{inl, inr}
use Rattle.std.specs.declared.net.tcp.TcpStream.{TcpStream}
use Rattle.ring_words.specs.Limits.{most_numbers}
use Rattle.builder.specs.Life.{BookContent}
use Rattle.builder.specs.Safety.{IsSafeRun}
use Rattle.builder.specs.declared.machine.RingMachine.{RingMachine}
use Rattle.command_line.specs.declared.task.Task.{Task}
use Rattle.command_line.specs.declared.task.Task.TheVariants as task
use Rattle.http_messages.specs.declared.audience.Audience.TheVariants.{Programs}
use Rattle.http_sockets.specs.Connections.{IsTalk, ServedUntil}
use Rattle.http_sockets.specs.Hours.{TellsGiven}
use Rattle.http_sockets.specs.Listening.{AcceptsNone, HasAcceptedNone}
use Rattle.http_sockets.specs.declared.fault.ServiceEnd.{ServiceEnd}
use Rattle.http_sockets.specs.declared.fault.ServiceEnd.TheVariants as ended
use Rattle.request_book.specs.Book.{Parts}
use Rattle.request_book.specs.Keeper.{LeavesOnly}
use Rattle.request_book.specs.declared.keeper.KeepFault.{KeepFault}
use Rattle.ring_book.specs.Book.{Keeping}
use Rattle.program_stores.specs.Faults.{IsStoreFault, keep_fault}
use Rattle.program_stores.specs.Stores.{Closing}
use Rattle.programs.specs.Begun.{AreServiceLimits, HasFailedBy, HasNotFailed}
use Rattle.programs.specs.Begun.{WasClosed}
use Rattle.programs.specs.Serving.{IsSet, MachineClock, accepts_tcp, shuts_tcp, tcp_remaining}
use Rattle.program_stores.specs.declared.faults.ProgramFault.{ProgramFault}
use Rattle.program_stores.specs.declared.faults.ProgramFault.TheVariants as fault
use Rattle.programs.specs.declared.service.Figures.{Figures}
use Rattle.programs.specs.declared.service.ServiceAsk.{ServiceAsk}

-- ---- what is asked for

-- A task asks for this service.
abbrev pub AsksService : Task → ServiceAsk → Type 0
AsksService (task.Service file port hosts hour_ok names) ask = (ask.file ≡ file) × (ask.port ≡ port)
    × (ask.hosts.now ≡ hosts.items) × (ask.hour_ok ≡ hour_ok) × (ask.names ≡ names)
AsksService _ ask = ⊥

-- ---- what a store is found with

-- A store that holds this has these figures.
pub record AreFigures (figures : Figures) (held : BookContent) : Type 0 where
  pub numbers : figures.numbers ≡ length held.book
  pub rings : figures.rings ≡ length held.state
  pub hour : figures.hour ≡ held.hour

-- by how many hours a clock may be ahead of the greatest hour that a store keeps
abbrev pub most_ahead : ℕ
most_ahead = 24

-- whether a store has an hour to go by: it has decided a request, or goes on from an hour of another
abbrev pub has_hour : Figures → Bool
has_hour figures = nat_lt 0 figures.numbers || nat_lt 0 figures.hour

-- whether an hour is too far ahead of the greatest one that a store keeps
abbrev pub is_ahead : ℕ → Figures → Bool
is_ahead hour figures = has_hour figures && nat_lt (figures.hour + most_ahead) hour

-- whether a service begins at an hour over a store: at one that is not too far ahead, or at any where
-- that was asked for
abbrev pub may_begin : ServiceAsk → ℕ → Figures → Bool
may_begin ask hour figures = ask.hour_ok || not (is_ahead hour figures)

-- ---- what is told

-- what a service serves, and where
abbrev pub place_text : ServiceAsk → List ℕ
place_text ask = ask.file.now ++ codes " on 127.0.0.1:" ++ decimal ask.port

-- how much a store holds
abbrev pub held_text : Figures → List ℕ
held_text figures = codes "numbers kept: " ++ decimal figures.numbers ++ codes " of " ++
    decimal most_numbers ++ codes ", rings: " ++ decimal figures.rings

-- the line that tells what a service begins to serve
abbrev pub serving_line : ServiceAsk → Figures → List ℕ
serving_line ask figures = codes "ringd: serving " ++ place_text ask ++ codes ", " ++
    held_text figures ++ 10 ∷ []

-- the line that tells why a service doesn't begin at an hour
abbrev pub ahead_line : ServiceAsk → ℕ → Figures → List ℕ
ahead_line ask hour figures = codes "ringd: this machine's clock says hour " ++ decimal hour ++
    codes ", and the greatest hour in " ++ ask.file.now ++ codes " is " ++ decimal figures.hour ++
    codes "; --hour-ok serves all the same" ++ 10 ∷ []

-- what the end of a service is told as
abbrev pub end_fault : ServiceEnd → ProgramFault
end_fault ended.StoreFailed = fault.StoreFault
end_fault ended.NetFailed = fault.NetFailed
end_fault ended.AllServed = fault.NetFailed

-- ---- what is done

-- A keeper whose store has not failed was asked what it holds, and became another one, which holds
-- the same. A crash leaves that and nothing else.
pub record WasAsked {K : Type 0} (g : Keeping K) (keeper later : K) : Type 0 where
  pub unfailed : HasNotFailed g keeper
  pub sound : g.sound later → g.sound keeper
  pub content : g.sound later → g.content later ≡ g.content keeper
  pub limit : g.limit later ≡ g.limit keeper
  pub left : g.sound later → LeavesOnly (g.may_leave later) (g.content keeper)

-- A service was asked for, and the clock is this.
module _ {K C : Type 0} (g : Keeping K) (tells : C → ℕ → C → Type 0) (ask : ServiceAsk) (clock : C)
  where
    -- A keeper was asked for its figures, and then the clock for the hour, and the two became these:
    -- the service may begin or not.
    pub record IsJudged (keeper later : K) (late_clock : C) (judgement : Bool) : Type 0 where
      pub unfailed : HasNotFailed g later
      pub figures : Figures
      pub are : g.sound later → AreFigures figures (g.content keeper)
      pub hour : ℕ
      pub told : tells clock hour late_clock
      pub judged : may_begin ask hour figures ≡ judgement

    -- A service doesn't begin over a keeper that was asked, for this fault: the keeper failed so, or
    -- there was no memory for a line; or the clock is too far ahead; or the port can't be had, of
    -- which this is so, and it would have begun.
    abbrev pub FailsToBegin : (ℕ → Type 0) → K → K → ProgramFault → Type 0
    FailsToBegin shuts keeper later why =
        ((cause : KeepFault) × (why ≡ keep_fault cause) × HasFailedBy g cause later)
        ⊎ ((why ≡ fault.ClockAhead) × ((late : C) × IsJudged keeper later late false))
        ⊎ ((why ≡ fault.NetFailed) × shuts ask.port × ((late : C) × IsJudged keeper later late true))

    -- the lines that it tells of that
    abbrev pub begin_lines : (shuts : ℕ → Type 0) (keeper later : K) (why : ProgramFault)
        → FailsToBegin shuts keeper later why → List (List ℕ)
    begin_lines shuts keeper later why (inl failed) = []
    begin_lines shuts keeper later why (inr (inl (is, (late, judged)))) =
        ahead_line ask judged.hour judged.figures ∷ []
    begin_lines shuts keeper later why (inr (inr unopened)) = []

    module _ (Begins Ends : K → Type 0) where
      -- A store was opened and asked, and the service didn't begin, for this fault. The store stays
      -- as it was, and was closed.
      pub record NeverServes (shuts : ℕ → Type 0) (why : ProgramFault) : Type 0 where
        pub keeper : K
        pub later : K
        pub opened : Begins keeper
        pub asked : WasAsked g keeper later
        pub failed : FailsToBegin shuts keeper later why
        pub left : Ends later

      -- The streams of connections tell so of their bytes; doors give them so, or fail so to give
      -- one; and ports open them so.
      module _ {D S : Type 0} (remaining contents : S → Option (List ℕ))
          (gives : D → S → S → D → Type 0) (fails : D → D → Type 0) (opens : ℕ → D → Type 0) where
        -- A store was opened and asked, and the service began. Its port was opened, and what programs
        -- sent on the port's connections was served until this ended it: their calls, one connection
        -- after another, are one run of the book. That run is safe, and the store was closed.
        pub record ServesPrograms (end : ServiceEnd) : Type 0 where
          pub keeper : K
          pub first : C × Parts RingMachine K
          pub last : C × Parts RingMachine K
          pub opened : Begins keeper
          pub asked : WasAsked g keeper first.1.keeper
          pub judged : IsJudged keeper first.1.keeper first.0 true
          pub full : AreServiceLimits first.1.machine.limits
          pub door : D
          pub later : D
          pub port : opens ask.port door
          pub served : ServedUntil g tells ask.names.prefix.now ask.names.suffix.now
              (IsTalk (Programs ask.hosts) remaining contents) gives fails door later first last end
          pub safe : g.sound last.1.keeper → IsSafeRun first.1.machine.limits
              (g.content first.1.keeper) (g.content last.1.keeper)
          pub left : Ends last.1.keeper

        -- A service over a store that was opened ended for this fault: it never began, or served until
        -- something ended it.
        abbrev pub EndsService : (ℕ → Type 0) → ProgramFault → Type 0
        EndsService shuts why = NeverServes shuts why
            ⊎ ((end : ServiceEnd) × (why ≡ end_fault end) × ServesPrograms end)

        -- the lines that it told before it told the fault
        abbrev pub end_lines : (shuts : ℕ → Type 0) (why : ProgramFault) → EndsService shuts why
            → List (List ℕ)
        end_lines shuts why (inl never) =
            begin_lines shuts never.keeper never.later why never.failed
        end_lines shuts why (inr (end, is, served)) = serving_line ask served.judged.figures ∷ []

-- Keepers of stores are these, begin so, and end so with what closing them answers. A service was
-- asked for, and the clock is this.
module _ {K C : Type 0} (g : Keeping K) (tells : C → ℕ → C → Type 0) (Begins : K → Type 0)
    (Ends : K → Closing → Type 0) (ask : ServiceAsk) (clock : C) where
  module _ {D S : Type 0} (remaining contents : S → Option (List ℕ))
      (gives : D → S → S → D → Type 0) (fails : D → D → Type 0) (opens : ℕ → D → Type 0)
      (shuts : ℕ → Type 0) (Refuses : ProgramFault → Type 0) where
    -- A service ended for this fault: its store wasn't opened, for that fault; or it ended over the
    -- store, which was closed, whatever that answered.
    abbrev pub StopsService : ProgramFault → Type 0
    StopsService why = (Refuses why × IsStoreFault why)
        ⊎ EndsService g tells ask clock Begins (WasClosed Ends) remaining contents gives fails opens
        shuts why

    -- the lines that it told before it told the fault
    abbrev pub service_lines : (why : ProgramFault) → StopsService why → List (List ℕ)
    service_lines why (inl refused) = []
    service_lines why (inr ended) = end_lines g tells ask clock Begins (WasClosed Ends) remaining
        contents gives fails opens shuts why ended

-- ---- on this machine

-- nor the bytes that it takes
abbrev pub tcp_contents : TcpStream → Option (List ℕ)
tcp_contents stream = None

-- A service of this machine that a task asks for, by a clock of this machine, stopped for this fault.
pub record StopsOnMachine {K : Type 0} (g : Keeping K) (Begins : K → Type 0)
    (Ends : K → Closing → Type 0) (Refuses : ProgramFault → Type 0) (t : Task) (why : ProgramFault) :
    Type 0 where
  pub ask : ServiceAsk
  pub asks : AsksService t ask
  pub clock : MachineClock
  pub set : IsSet None clock
  pub stops : StopsService g TellsGiven Begins Ends ask clock tcp_remaining tcp_contents accepts_tcp
      AcceptsNone (λ _ server. HasAcceptedNone server) shuts_tcp Refuses why

-- the lines that it told before it told the fault
abbrev pub machine_lines : {K : Type 0} (g : Keeping K) (Begins : K → Type 0)
    (Ends : K → Closing → Type 0) (Refuses : ProgramFault → Type 0) (t : Task) (why : ProgramFault)
    → StopsOnMachine g Begins Ends Refuses t why → List (List ℕ)
machine_lines g Begins Ends Refuses t why stopped = service_lines g TellsGiven Begins Ends stopped.ask
    stopped.clock tcp_remaining tcp_contents accepts_tcp AcceptsNone
    (λ _ server. HasAcceptedNone server) shuts_tcp Refuses why stopped.stops

-- ---- the status

-- whether a fault stays however often a program is started again
abbrev pub is_lasting : ProgramFault → Bool
is_lasting fault.BadStore = true
is_lasting fault.NoFile = true
is_lasting fault.NetFailed = true
is_lasting fault.ClockAhead = true
is_lasting _ = false

-- the status of a service that a fault ended which stays, or doesn't
abbrev pub service_status : Bool → ℕ
service_status true = 3
service_status false = 1

-- the status of a program that a fault ended
abbrev pub fault_status : Task → ProgramFault → ℕ
fault_status (task.Service file port hosts hour_ok names) why = service_status (is_lasting why)
fault_status _ why = 1
