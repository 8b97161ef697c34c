-- What serving does, over a keeper of which more or less is known, and over that of a store.
use Rattle.std.proofs.Common.{◌≡◌, List, None, Option, Result, Ok, Err, ℕ, subst, sym}
use Rattle.std.proofs.lemmas.Result.{IfErr-weaker, on_ok_weaker}
use Rattle.std.specs.Prelude.{IfErr, MatchResult, OnOk}
use Rattle.std.specs.declared.net.tcp.TcpStream.{TcpStream}
use Rattle.builder.specs.Safety.{IsSafeRun}
use Rattle.byte_streams.specs.Counted.{IsFlushed, write_faults}
use Rattle.byte_streams.specs.declared.counted.CountedWriter.{CountedWriter}
use Rattle.http_messages.specs.declared.audience.Audience.TheVariants.{Anyone}
use Rattle.http_sockets.specs.Connections.{IsTalk, LoopFails, OneEnded, PortFailed, PortServed}
use Rattle.http_sockets.proofs.Talks.{first_ended, first_fails, first_port, first_port_failed}
use Rattle.http_sockets.specs.Hours.{TellsGiven}
use Rattle.http_sockets.specs.declared.fault.ServeFault.{ServeFault}
use Rattle.http_sockets.specs.declared.fault.ServeFault.TheVariants.{NetFailed}
use Rattle.path_lookup.specs.declared.hash.HashNames.{HashNames}
use Rattle.programs.specs.Begun.{IsBegun}
use Rattle.programs.specs.Serving.{IsServed, IsSet, LoopsOnce, Service, ServesConnections}
use Rattle.programs.specs.Serving.{ServesFewer, StopsLoop, TakesFew, tcp_remaining}
use Rattle.programs.proofs.Runs.{begun}
use Rattle.ring_book.specs.Book.{Keeping}

-- a fact on a result that is known to be well, and to be ill
pub match_ok : {A E : Type 0} (result : Result A E) (value : A) (Well : A → Type 0)
    (Ill : E → Type 0) → result ≡ Ok value → MatchResult result Well Ill → Well value
match_ok result value Well Ill is holds = subst (λ r. MatchResult r Well Ill) is holds

pub on_ok_at : {A E : Type 0} (result : Result A E) (value : A) (Well : Type 0) → result ≡ Ok value
    → OnOk result Well → Well
on_ok_at result value Well is holds = subst (λ r. OnOk r Well) is holds

pub match_err : {A E : Type 0} (result : Result A E) (why : E) (Well : A → Type 0)
    (Ill : E → Type 0) → result ≡ Err why → MatchResult result Well Ill → Ill why
match_err result why Well Ill is holds = subst (λ r. MatchResult r Well Ill) is holds

module _ {K : Type 0} (g : Keeping K) (Begins Ends : K → Type 0) (given : Option ℕ)
    (names : HashNames) (first last : Service K) (clock : IsSet given first.0)
    (opened : IsBegun Begins first.1)
    (left : Ends last.1.keeper)
    (safe : g.sound last.1.keeper → IsSafeRun first.1.machine.limits (g.content first.1.keeper)
    (g.content last.1.keeper)) where
  -- a book that was led so was served
  is_served : (Leads : Service K → Service K → Type 0) → Leads first last
      → IsServed g Begins Ends given names Leads
  is_served Leads led = record {
    first = first;
    last = last;
    clock = clock;
    opened = opened;
    left = left;
    led = led;
    safe = safe;
  }

  module _ {D S : Type 0} (remaining contents : S → Option (List ℕ))
      (gives : D → S → S → D → Type 0) (fails : D → D → Type 0) (opens : ℕ → D → Type 0)
      (shuts : ℕ → Type 0) (port count : ℕ) (result : Result (Unit {0}) ServeFault) where
    -- what serving a port does
    pub port_served : OnOk result (PortServed g TellsGiven names.prefix.now names.suffix.now
        (IsTalk Anyone remaining contents) gives fails opens port count first last)
        → OnOk result (ServesConnections g Begins Ends given names remaining gives fails opens port count)
    port_served = on_ok_weaker result (λ all. is_served _ (first_port Anyone remaining contents g
        TellsGiven names.prefix.now names.suffix.now gives fails opens shuts port count first last
        all))

    -- what failing to serve it does
    pub port_failed : IfErr result (λ cause. (cause ≡ NetFailed) × PortFailed g TellsGiven
        names.prefix.now names.suffix.now (IsTalk Anyone remaining contents) gives fails opens shuts
        port count first last)
        → IfErr result (λ cause. (cause ≡ NetFailed)
        × ServesFewer g Begins Ends given names remaining gives fails opens shuts port count)
    port_failed = IfErr-weaker result _ _ (λ cause all. (
      all.0,
      is_served _ (first_port_failed Anyone
          remaining contents g TellsGiven names.prefix.now names.suffix.now gives fails opens shuts port
          count first last all.1),
    ))

  -- what serving an input does
  pub input_served : {W : Type 0} (sent : TcpStream → Option (List ℕ))
      (contents : W → Option (List ℕ)) (writer later : CountedWriter W)
      (result : Result (Unit {0}) ServeFault)
      → OnOk result (OneEnded g TellsGiven names.prefix.now
      names.suffix.now (IsTalk Anyone tcp_remaining sent) first last None)
      → IfErr result (LoopFails g TellsGiven names.prefix.now names.suffix.now
      (IsTalk Anyone tcp_remaining sent) first last (write_faults writer) (write_faults later))
      → TakesFew contents writer later
      → OnOk result (write_faults later ≡ write_faults writer)
      → OnOk result (IsFlushed later)
      → MatchResult result (λ _. LoopsOnce g Begins Ends given names contents writer later)
      (StopsLoop g Begins Ends given names contents writer later)
  input_served sent contents writer later (Ok done) one fails few same flushed = (
    is_served _ (first_ended Anyone tcp_remaining sent g TellsGiven names.prefix.now
        names.suffix.now first last None one),
    few,
    same,
    flushed,
  )
  input_served sent contents writer later (Err why) one fails few same flushed = (
    is_served _ (first_fails Anyone tcp_remaining sent g TellsGiven names.prefix.now
        names.suffix.now first last (write_faults writer) (write_faults later) why fails),
    few,
  )

module _ {K : Type 0} (g : Keeping K) (Begins Ends : K → Type 0) (kept left : K)
    (is : Begins kept) (ends : Ends left) (given : Option ℕ) (names : HashNames) where
  -- what was served over the keeper of a store that was closed was served over one that begins as a
  -- store that is opened, and was left so
  pub kept_served : (Leads : Service K → Service K → Type 0)
      → IsServed g (λ k. k ≡ kept) (λ k. k ≡ left) given names Leads
      → IsServed g Begins Ends given names Leads
  kept_served Leads s = record {
    first = s.first;
    last = s.last;
    clock = s.clock;
    opened = begun g (λ k. k ≡ kept) Begins
        (λ keeper same. subst Begins (sym same) is) s.first.1 s.opened;
    left = subst Ends (sym s.left) ends;
    led = s.led;
    safe = s.safe;
  }

  pub kept_loops : {W : Type 0} (contents : W → Option (List ℕ)) (writer later : CountedWriter W)
      → LoopsOnce g (λ k. k ≡ kept) (λ k. k ≡ left) given names contents writer later
      → LoopsOnce g Begins Ends given names contents writer later
  kept_loops contents writer later all = (kept_served _ all.0, all.1, all.2, all.3)

  pub kept_stops : {W : Type 0} (contents : W → Option (List ℕ)) (writer later : CountedWriter W)
      (cause : ServeFault) → StopsLoop g (λ k. k ≡ kept) (λ k. k ≡ left) given names contents writer
      later cause
      → StopsLoop g Begins Ends given names contents writer later cause
  kept_stops contents writer later cause all = (kept_served _ all.0, all.1)
