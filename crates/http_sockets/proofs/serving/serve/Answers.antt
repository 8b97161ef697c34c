use Rattle.std.proofs.Common.{arith, refl}
use Rattle.http_sockets.proofs.Chains.{none_yet, one_more, safe_all}
use Rattle.http_sockets.specs.Connections.{IsTalk}
use Rattle.http_sockets.proofs.serving.serve.Goals as goal

pub loop-served-init : goal.loop-served-init
loop-served-init g c = record {
  within = omega arith;
  all = none_yet g.K.Keeper g.C.Clock.tells c.args.names.prefix.now c.args.names.suffix.now
      (IsTalk c.args.audience g.D.Stream.Read.remaining g.D.Stream.Write.contents) g.D.Door.gives _
      c.args.door.now (c.args.clock.now, c.args.book.now) refl;
}

pub loop-served-preserved : goal.loop-served-preserved
loop-served-preserved g c = let one = rw c.new-site.ensures at c.serve_one.ensures in record {
  within = omega (arith, c.loop-served-test.true);
  all = one_more g.K.Keeper g.C.Clock.tells c.args.names.prefix.now c.args.names.suffix.now
      (IsTalk c.args.audience g.D.Stream.Read.remaining g.D.Stream.Write.contents) g.D.Door.gives
      c.loop-served.served c.args.door.now c.loop-served.door c.accept.new.self
      c.in_ok-ends.ends.reader c.in_ok-ends.ends.writer (c.args.clock.now, c.args.book.now)
      (c.loop-served.clock, c.loop-served.book) (c.serve_one.new.clock, c.serve_one.new.book)
      c.loop-served.invariant.all c.in_ok-ends.ensures.given one.0 one.1 one.2;
}

pub returns-in_err-ends-clause-safe : goal.returns-in_err-ends-clause-safe
returns-in_err-ends-clause-safe g c = safe_all g.K.Keeper g.C.Clock.tells c.args.names.prefix.now
    c.args.names.suffix.now
    (IsTalk c.args.audience g.D.Stream.Read.remaining g.D.Stream.Write.contents) g.D.Door.gives
    c.loop-served.served c.args.door.now c.loop-served.door c.args.clock.now c.loop-served.clock
    c.args.book.now c.loop-served.book c.loop-served.invariant.all

pub returns-clause-safe : goal.returns-clause-safe
returns-clause-safe g c = safe_all g.K.Keeper g.C.Clock.tells c.args.names.prefix.now
    c.args.names.suffix.now
    (IsTalk c.args.audience g.D.Stream.Read.remaining g.D.Stream.Write.contents) g.D.Door.gives
    c.loop-served.served c.args.door.now c.loop-served.door c.args.clock.now c.loop-served.clock
    c.args.book.now c.loop-served.book c.loop-served.invariant.all
