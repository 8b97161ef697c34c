use Rattle.http_sockets.proofs.Chains.{accepts_up_to, counts_up_to}
use Rattle.http_sockets.specs.Connections.{IsTalk}
use Rattle.http_sockets.proofs.server.Server.serve.Goals as goal

pub returns-clause-accepted : goal.returns-clause-accepted
returns-clause-accepted g c = accepts_up_to g.K.Keeper g.C.Clock.tells c.args.names.prefix.now
    c.args.names.suffix.now (IsTalk c.args.audience g.R.Stream.Read.remaining g.R.Stream.Write.contents) c.args.count
    c.args.self.now c.serve.new.door (c.args.clock.now, c.args.book.now)
    (c.serve.new.clock, c.serve.new.book) c.serve.result c.serve.ensures.served

pub returns-clause-cause : goal.returns-clause-cause
returns-clause-cause g c = counts_up_to g.K.Keeper g.C.Clock.tells c.args.names.prefix.now
    c.args.names.suffix.now (IsTalk c.args.audience g.R.Stream.Read.remaining g.R.Stream.Write.contents) c.args.count
    c.args.self.now c.serve.new.door (c.args.clock.now, c.args.book.now)
    (c.serve.new.clock, c.serve.new.book) c.serve.result c.serve.ensures.served
