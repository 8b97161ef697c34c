use Rattle.std.proofs.Common.{◌≡◌, sym}
use Rattle.programs.proofs.Services.{port_failed, port_served}
use Rattle.programs.proofs.serving.serve_port.Goals as goal

pub returns-clause-served : goal.returns-clause-served
returns-clause-served g c = let served = c.serve_connections-served in
    port_served g.K.Keeper (λ k. k ≡ c.args.keeper) (λ k. k ≡ c.into_keeper.result)
    c.args.given c.args.names
    (c.new_clock-clock.result, c.open_book-book.result) (served.new.clock, served.new.book)
    c.new_clock-clock.ensures c.open_book-book.ensures (sym c.into_keeper.ensures)
    served.ensures.safe g.P.Door.Stream.Read.remaining g.P.Door.Stream.Write.contents
    g.P.Door.Door.gives g.P.Door.Door.fails g.P.Ports.opens g.P.Ports.shuts c.args.port c.args.count
    served.result served.ensures.served

pub returns-clause-failed : goal.returns-clause-failed
returns-clause-failed g c = let served = c.serve_connections-served in
    port_failed g.K.Keeper (λ k. k ≡ c.args.keeper) (λ k. k ≡ c.into_keeper.result)
    c.args.given c.args.names
    (c.new_clock-clock.result, c.open_book-book.result) (served.new.clock, served.new.book)
    c.new_clock-clock.ensures c.open_book-book.ensures (sym c.into_keeper.ensures)
    served.ensures.safe g.P.Door.Stream.Read.remaining g.P.Door.Stream.Write.contents
    g.P.Door.Door.gives g.P.Door.Door.fails g.P.Ports.opens g.P.Ports.shuts c.args.port c.args.count
    served.result served.ensures.failed
