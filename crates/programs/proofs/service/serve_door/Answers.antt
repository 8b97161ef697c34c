use Rattle.std.proofs.Common.{subst, sym}
use Rattle.builder.specs.Safety.{IsSafeRun}
use Rattle.http_messages.specs.declared.audience.Audience.TheVariants.{Programs}
use Rattle.http_sockets.specs.Connections.{IsTalk, ServedUntil}
use Rattle.programs.proofs.service.serve_door.Goals as goal

pub returns : goal.returns
returns g c =
    let book = c.open_book-book.result in
    let ask = c.args.ask.now in
    record {
      machine = book.machine;
      full = c.open_book-book.ensures.full;
      last = (c.serve_on-end.new.clock, c.serve_on-end.new.book);
      later = c.serve_on-end.new.door;
      served = subst (λ k. ServedUntil g.K.Keeper g.C.Clock.tells ask.names.prefix.now
          ask.names.suffix.now (IsTalk (Programs ask.hosts) g.D.Stream.Read.remaining
          g.D.Stream.Write.contents) g.D.Door.gives g.D.Door.fails c.args.door
          c.serve_on-end.new.door (c.args.clock, record { machine = book.machine; keeper = k })
          (c.serve_on-end.new.clock, c.serve_on-end.new.book) c.serve_on-end.result)
          c.open_book-book.ensures.keeper c.serve_on-end.ensures.served;
      safe = λ sound. subst (λ k. IsSafeRun book.machine.limits (g.K.Keeper.content k)
          (g.K.Keeper.content c.serve_on-end.new.book.keeper)) c.open_book-book.ensures.keeper
          (c.serve_on-end.ensures.safe sound);
      left = sym c.into_keeper.ensures;
    }
