-- What the programs `serve` and `loop` do.
use Rattle.std.specs.Prelude.{◌≡◌, ◌⊎◌, ◌≤◌, ℕ, List, None, Option, length, ⊤}
use Rattle.std.specs.Borrow.{Bor}
use Rattle.std.specs.Io.KnownBytes.{Appends}
use Rattle.std.specs.declared.net.tcp.TcpListener.{TcpListener}
use Rattle.std.specs.declared.net.tcp.TcpStream.{TcpStream}
use Rattle.std.specs.declared.rt.LibcRuntime.{LibcRuntime}
use Rattle.builder.specs.Safety.{IsSafeRun}
use Rattle.builder.specs.declared.machine.RingMachine.{RingMachine}
use Rattle.byte_streams.specs.Counted.{IsFlushed, write_faults, writer_of}
use Rattle.byte_streams.specs.declared.counted.CountedWriter.{CountedWriter}
use Rattle.http_messages.specs.declared.audience.Audience.TheVariants.{Anyone}
use Rattle.http_sockets.specs.Connections.{AnswersFirst, LoopFails, OneEnded, PortFailed}
use Rattle.http_sockets.specs.Connections.{PortServed, most_looped}
use Rattle.http_sockets.specs.Hours.{TellsGiven, given_hour, told_hour}
use Rattle.http_sockets.specs.Listening.{AcceptsNone, AcceptsOne, HasAcceptedNone}
use Rattle.http_sockets.specs.declared.fault.ServeFault.{ServeFault}
use Rattle.http_sockets.specs.declared.hours.HourClock.{HourClock}
use Rattle.http_sockets.specs.declared.server.Server.{Server}
use Rattle.path_lookup.specs.declared.hash.HashNames.{HashNames}
use Rattle.request_book.specs.Book.{Parts}
use Rattle.programs.specs.Faults.{serve_fault}
use Rattle.program_stores.specs.Faults.{IsCloseFault, IsFileFault, IsStoreFault}
use Rattle.program_stores.specs.Stores.{Closing}
use Rattle.programs.specs.Begun.{FailedToClose, IsBegun}
use Rattle.programs.specs.Begun.{OpensNone}
use Rattle.programs.specs.Begun.{OpensOne, WasClosed}
use Rattle.programs.specs.Tables.{HoldsShort}
use Rattle.program_stores.specs.declared.faults.ProgramFault.{ProgramFault}
use Rattle.program_stores.specs.declared.faults.ProgramFault.TheVariants as fault
use Rattle.ring_book.specs.Book.{Keeping}

-- a clock that tells the hours of this machine, or always one
abbrev pub MachineClock : Type 0
MachineClock = HourClock (Bor LibcRuntime)

-- the server of a port of this machine
abbrev pub MachineServer : Type 0
MachineServer = Server LibcRuntime TcpStream TcpListener

-- a socket doesn't tell its bytes
abbrev pub tcp_remaining : TcpStream → Option (List ℕ)
tcp_remaining stream = None

-- A server of this machine accepted this connection.
abbrev pub accepts_tcp : MachineServer → TcpStream → TcpStream → MachineServer → Type 0
accepts_tcp old reader writer new = AcceptsOne old new

-- A port of this machine can't be had; of the cause no socket tells.
abbrev pub shuts_tcp : ℕ → Type 0
shuts_tcp port = ⊤

-- The clock was given this hour to tell, or none, and has told none yet.
pub record IsSet (given : Option ℕ) (clock : MachineClock) : Type 0 where
  pub hour : given_hour clock ≡ given
  pub new : told_hour clock ≡ 0

-- A clock that was given this hour to tell, or none, tells this one first.
abbrev pub TellsHour : Option ℕ → ℕ → Type 0
TellsHour given hour = (clock later : MachineClock) × IsSet given clock
    × TellsGiven clock hour later

-- a clock and a book
abbrev pub Service : Type 0 → Type 0
Service K = MachineClock × Parts RingMachine K

-- The writer took answers, of no more bytes than a connection of this machine with itself carries.
abbrev pub TakesFew : {W : Type 0} → (W → Option (List ℕ)) → CountedWriter W → CountedWriter W →
    Type 0
TakesFew contents writer later = (answers : List ℕ) × (length answers ≤ most_looped)
    × Appends (contents (writer_of writer)) (contents (writer_of later)) answers

-- A book was opened over a keeper that begins so, and leaves it so, and a clock was given this hour,
-- or none. Paths are hashed between these names.
module _ {K : Type 0} (g : Keeping K) (Begins Ends : K → Type 0) (given : Option ℕ)
    (names : HashNames) where
  -- The clock and the book were led so, and what the book was led to is a safe run.
  pub record IsServed (Leads : Service K → Service K → Type 0) : Type 0 where
    pub first : Service K
    pub last : Service K
    pub clock : IsSet given first.0
    pub opened : IsBegun Begins first.1
    pub left : Ends last.1.keeper
    pub led : Leads first last
    pub safe : g.sound last.1.keeper → IsSafeRun first.1.machine.limits
        (g.content first.1.keeper) (g.content last.1.keeper)

  -- The streams of connections tell so of their bytes; doors give them so, or fail so to give one;
  -- and ports open them so.
  module _ {D S : Type 0} (remaining : S → Option (List ℕ)) (gives : D → S → S → D → Type 0)
      (fails : D → D → Type 0) (opens : ℕ → D → Type 0) where
    -- A port was opened, so many of its connections were served, and the calls of their requests,
    -- one connection after another, are one run of the book.
    abbrev pub ServesConnections : ℕ → ℕ → Type 0
    ServesConnections port count = IsServed (PortServed g TellsGiven names.prefix.now
        names.suffix.now (AnswersFirst Anyone remaining) gives fails opens port count)

    -- The port can't be had, of which this is so, or fewer of its connections were served before none
    -- came any more.
    abbrev pub ServesFewer : (ℕ → Type 0) → ℕ → ℕ → Type 0
    ServesFewer shuts port count = IsServed (PortFailed g TellsGiven names.prefix.now
        names.suffix.now (AnswersFirst Anyone remaining) gives fails opens shuts port count)

  -- So many connections of a port of this machine were served.
  abbrev pub ServesPort : ℕ → ℕ → Type 0
  ServesPort = ServesConnections tcp_remaining accepts_tcp AcceptsNone (λ _ server. HasAcceptedNone server)

  -- One connection of this machine with itself was served to the end of its stream.
  abbrev pub ServesOne : Type 0
  ServesOne = IsServed (λ old new. OneEnded g TellsGiven names.prefix.now names.suffix.now
      (AnswersFirst Anyone tcp_remaining) old new None)

  module _ {W : Type 0} (contents : W → Option (List ℕ)) (writer later : CountedWriter W) where
    -- One connection was served, and its answers were written and flushed.
    abbrev pub LoopsOnce : Type 0
    LoopsOnce = ServesOne × TakesFew contents writer later
        × (write_faults later ≡ write_faults writer)
        × IsFlushed later

    -- This fault ended it, once the answers so far were written: one that ended the connection; or the
    -- writer failed once more; or there was no memory to begin with; or the machine's sockets failed.
    abbrev pub StopsLoop : ServeFault → Type 0
    StopsLoop cause = IsServed (λ old new. LoopFails g TellsGiven names.prefix.now names.suffix.now
        (AnswersFirst Anyone tcp_remaining) old new (write_faults writer) (write_faults later) cause)
        × TakesFew contents writer later

    -- A file held an input of no more than such a connection carries, and one connection was served.
    abbrev pub LoopsInput : (List ℕ → Type 0) → Type 0
    LoopsInput Holds = (input : List ℕ) × HoldsShort Holds most_looped input × LoopsOnce

-- Keepers of stores are these, begin so, and end so with what closing them answers. A clock was
-- given this hour, or none, and paths are hashed between these names.
module _ {K : Type 0} (g : Keeping K) (Begins : K → Type 0) (Ends : K → Closing → Type 0)
    (given : Option ℕ) (names : HashNames) where
  -- The streams of connections tell so of their bytes; doors give them so, or fail so to give one;
  -- and ports open them so.
  module _ {D S : Type 0} (remaining : S → Option (List ℕ)) (gives : D → S → S → D → Type 0)
      (fails : D → D → Type 0) (opens : ℕ → D → Type 0) where
    -- This fault ended it: the store wasn't opened, for that fault; or all were served, and closing
    -- the store failed so; or the port can't be had, of which this is so, or no connection came any
    -- more.
    abbrev pub FailsToServe : (ProgramFault → Type 0) → (ℕ → Type 0) → ℕ → ℕ → ProgramFault → Type 0
    FailsToServe Refuses shuts port count why = (Refuses why × IsStoreFault why)
        ⊎ (IsCloseFault why × ServesConnections g Begins (FailedToClose Ends why) given names
        remaining gives fails opens port count)
        ⊎ ((why ≡ fault.NetFailed) × ServesFewer g Begins (WasClosed Ends) given names remaining gives
        fails opens shuts port count)

  -- This fault ended the serving of a port of this machine.
  abbrev pub FailsToServePort : (ProgramFault → Type 0) → ℕ → ℕ → ProgramFault → Type 0
  FailsToServePort Refuses = FailsToServe tcp_remaining accepts_tcp AcceptsNone
      (λ _ server. HasAcceptedNone server) Refuses shuts_tcp

  module _ {W : Type 0} (contents : W → Option (List ℕ)) (writer later : CountedWriter W) where
    -- This fault ended it: the store wasn't opened, for that fault, and the writer wasn't touched;
    -- or one of the service; or all was written, and closing the store failed so.
    abbrev pub FailsToLoop : (ProgramFault → Type 0) → ProgramFault → Type 0
    FailsToLoop Refuses why = (Refuses why × IsStoreFault why × (later ≡ writer))
        ⊎ ((cause : ServeFault) × (why ≡ serve_fault cause)
        × StopsLoop g Begins (WasClosed Ends) given names contents writer later cause)
        ⊎ (IsCloseFault why
        × LoopsOnce g Begins (FailedToClose Ends why) given names contents writer later)

    -- This fault ended it: the file gave no such input, for that fault, the writer wasn't touched,
    -- and no store was opened or made; or one of the rest, and one store was.
    abbrev pub FailsToLoopInput : (ProgramFault → Type 0) → (ℕ → ProgramFault → Type 0) → ℕ → ℕ
        → ProgramFault → Type 0
    FailsToLoopInput Refuses IsUnread before after why =
        (IsUnread most_looped why × IsFileFault why × (later ≡ writer) × OpensNone before after)
        ⊎ (FailsToLoop Refuses why × OpensOne before after)
