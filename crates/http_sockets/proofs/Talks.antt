-- What is told of connections whose answers are known is told of their requests alone.
use Rattle.std.proofs.Common.{List, None, Option, Some, [], inl, inr, subst, sym, ℕ}
use Rattle.std.proofs.lemmas.List.Elements.{All-weaker}
use Rattle.byte_streams.proofs.KnownLemmas.{Consumes-none}
use Rattle.byte_streams.specs.declared.fault.StreamFault.{StreamFault}
use Rattle.byte_streams.specs.declared.fault.StreamFault.TheVariants.{NoMemory, ReadFailed}
use Rattle.byte_streams.specs.declared.fault.StreamFault.TheVariants.{WriteFailed}
use Rattle.http_messages.specs.declared.audience.Audience.{Audience}
use Rattle.http_sockets.specs.Connections.{AnswersBefore, AnswersFirst, Connection}
use Rattle.http_sockets.specs.Connections.{ConnectionsServed, Front, IsTalk, LoopFails, OneEnded}
use Rattle.http_sockets.specs.Connections.{OneServed, PortFailed, PortServed}
use Rattle.http_sockets.specs.declared.fault.ServeFault.{ServeFault}
use Rattle.http_sockets.specs.declared.fault.ServeFault.TheVariants.{NetFailed, Stream}
use Rattle.http_sockets.proofs.Chains.{begin_all, told_begins}
use Rattle.http_stream.specs.Streams.{BeginWith, Item}
use Rattle.ring_book.specs.Book.{Keeping}

module _ (audience : Audience) {S : Type 0} (remaining contents : S → Option (List ℕ)) where
  firsts : (fault : Option StreamFault) (bytes : List ℕ) (connection : Connection S) (late : S)
      → AnswersBefore audience remaining contents fault bytes connection late
      → AnswersFirst audience remaining connection
  firsts None bytes connection late all = (
    bytes,
    told_begins (remaining connection.reader) bytes all.0,
    begin_all audience connection.items bytes all.1,
  )
  firsts (Some ReadFailed) bytes connection late all = (
    bytes,
    all.0,
    begin_all audience connection.items bytes all.1,
  )
  firsts (Some WriteFailed) bytes connection late some = (bytes, some.0, some.1)
  firsts (Some NoMemory) bytes connection late none = (
    [],
    (remaining connection.reader, Consumes-none (remaining connection.reader)),
    subst (λ (items : List Item). BeginWith audience [] items) (sym none.0) tt,
  )

  -- what is told of one connection
  pub first_talk : (connection : Connection S) → IsTalk audience remaining contents connection
      → AnswersFirst audience remaining connection
  first_talk connection talk =
      firsts connection.fault talk.bytes connection talk.late talk.answered

  module _ {K C : Type 0} (kept : Keeping K)
      (tells : C → ℕ → C → Type 0) (prefix suffix : List ℕ) where
    abbrev At : Type 0
    At = Front {C = C} kept tells prefix suffix

    -- of the only one
    abbrev pub first_one : (old new : At)
        → OneServed kept tells prefix suffix (IsTalk audience remaining contents) old new
        → OneServed kept tells prefix suffix (AnswersFirst audience remaining) old new
    first_one old new one = record {
      connection = one.connection;
      served = first_talk one.connection one.served;
      serves = one.serves;
    }

    -- of the only one of a loop
    pub first_ended : (old new : At) (why : Option StreamFault)
        → OneEnded kept tells prefix suffix (IsTalk audience remaining contents) old new why
        → OneEnded kept tells prefix suffix (AnswersFirst audience remaining) old new why
    first_ended old new why (one, is) = (first_one old new one, is)

    pub first_fails : (old new : At) (before after : ℕ) (why : ServeFault)
        → LoopFails kept tells prefix suffix (IsTalk audience remaining contents) old new before after
        why
        → LoopFails kept tells prefix suffix (AnswersFirst audience remaining) old new before after why
    first_fails old new before after NetFailed (same, inl none) = (same, inl none)
    first_fails old new before after NetFailed (same, inr one) = (same, inr (first_one old new one))
    first_fails old new before after (Stream ReadFailed) (same, ended) =
        (same, first_ended old new (Some ReadFailed) ended)
    first_fails old new before after (Stream WriteFailed) (inl (more, one)) =
        inl (more, first_one old new one)
    first_fails old new before after (Stream WriteFailed) (inr (same, ended)) =
        inr (same, first_ended old new (Some WriteFailed) ended)
    first_fails old new before after (Stream NoMemory) (same, inl none) = (same, inl none)
    first_fails old new before after (Stream NoMemory) (same, inr ended) =
        (same, inr (first_ended old new (Some NoMemory) ended))

    module _ {D : Type 0} (gives : D → S → S → D → Type 0) where
      -- of all
      first_all : (count : ℕ) (door later : D) (old new : At)
          → ConnectionsServed kept tells prefix suffix (IsTalk audience remaining contents) gives count door
          later old new
          → ConnectionsServed kept tells prefix suffix (AnswersFirst audience remaining) gives count door
          later old new
      first_all count door later old new all = record {
        connections = all.connections;
        count_is = all.count_is;
        came = all.came;
        served = All-weaker (IsTalk audience remaining contents) (AnswersFirst audience remaining) first_talk
            all.connections all.served;
        serves = all.serves;
      }

      module _ (fails : D → D → Type 0) (opens : ℕ → D → Type 0) (shuts : ℕ → Type 0)
          (port count : ℕ) where
        -- of all of a port
        pub first_port : (old new : At)
            → PortServed kept tells prefix suffix (IsTalk audience remaining contents) gives fails opens port
            count old new
            → PortServed kept tells prefix suffix (AnswersFirst audience remaining) gives fails opens port
            count old new
        first_port old new (door, later, opened, all) =
            (door, later, opened, first_all count door later old new all)

        -- of fewer
        pub first_port_failed : (old new : At)
            → PortFailed kept tells prefix suffix (IsTalk audience remaining contents) gives fails
            opens shuts port count old new
            → PortFailed kept tells prefix suffix (AnswersFirst audience remaining) gives fails
            opens shuts port count old new
        first_port_failed old new (inl same) = inl same
        first_port_failed old new (inr (door, later, opened, few)) = inr (
          door,
          later,
          opened,
          record {
            number = few.number;
            fewer = few.fewer;
            then = record {
              last = few.then.last;
              all = first_all few.number door few.then.last old new few.then.all;
              failed = few.then.failed;
            };
          },
        )
