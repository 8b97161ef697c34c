-- What a service serves that has begun.
use Rattle.std.specs.Prelude.{◌≡◌, List, Option, ℕ}
use Rattle.builder.specs.Safety.{IsSafeRun}
use Rattle.builder.specs.declared.machine.RingMachine.{RingMachine}
use Rattle.http_messages.specs.declared.audience.Audience.TheVariants.{Programs}
use Rattle.http_sockets.specs.Connections.{IsTalk, ServedUntil}
use Rattle.http_sockets.specs.declared.fault.ServiceEnd.{ServiceEnd}
use Rattle.request_book.specs.Book.{Parts}
use Rattle.ring_book.specs.Book.{Keeping}
use Rattle.programs.specs.Begun.{AreServiceLimits}
use Rattle.programs.specs.declared.service.ServiceAsk.{ServiceAsk}

-- A book of this machine was opened over a keeper, which became another one, and what programs sent
-- on the connections of a door was served, by this clock, until this ended it. What the book was led
-- to is a safe run.
pub record IsServedUntil {K C D S : Type 0} (g : Keeping K) (tells : C → ℕ → C → Type 0)
    (ask : ServiceAsk) (keeper late_keeper : K) (clock : C) (remaining contents : S → Option (List ℕ))
    (gives : D → S → S → D → Type 0) (fails : D → D → Type 0) (door : D) (end : ServiceEnd) : Type 0
  where
    pub machine : RingMachine
    pub full : AreServiceLimits machine.limits
    pub last : C × Parts RingMachine K
    pub later : D
    pub served : ServedUntil g tells ask.names.prefix.now ask.names.suffix.now
        (IsTalk (Programs ask.hosts) remaining contents) gives fails door later
        (clock, record { machine = machine; keeper = keeper }) last end
    pub safe : g.sound last.1.keeper → IsSafeRun machine.limits (g.content keeper)
        (g.content last.1.keeper)
    pub left : last.1.keeper ≡ late_keeper
