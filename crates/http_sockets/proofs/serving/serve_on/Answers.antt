use Rattle.std.proofs.Common.{◌≡◌, ◌<◌, ◌+◌, arith, false, refl, suc, true, zero, ℕ}
use Rattle.std.specs.Prelude.{IsTrue}
use Rattle.http_sockets.proofs.Chains.{none_yet, one_more, safe_all}
use Rattle.http_sockets.specs.Connections.{IsTalk}
use Rattle.http_sockets.proofs.serving.serve_on.Goals as goal

none : (count : ℕ) → (0 < count → IsTrue false) → count ≡ 0
none zero some = refl
none (suc count) some = let never : false ≡ true = some (omega arith) in cc

pub loop-served-init : goal.loop-served-init
loop-served-init g c = record {
  within = omega arith;
  open_book = c.requires;
  all = none_yet g.K.Keeper g.C.Clock.tells c.args.names.prefix.now c.args.names.suffix.now
      (IsTalk c.args.audience g.D.Stream.Read.remaining g.D.Stream.Write.contents) g.D.Door.gives _
      c.args.door.now (c.args.clock.now, c.args.book.now) refl;
}

pub loop-served-preserved : goal.loop-served-preserved
loop-served-preserved g c = let one = rw c.new-site.ensures at c.serve_one.ensures in record {
  within = omega (arith, c.loop-served-test.true);
  open_book = none _ c.if-is_closed.ensures.1;
  all = one_more g.K.Keeper g.C.Clock.tells c.args.names.prefix.now c.args.names.suffix.now
      (IsTalk c.args.audience g.D.Stream.Read.remaining g.D.Stream.Write.contents) g.D.Door.gives
      c.loop-served.served c.args.door.now c.loop-served.door c.accept.new.self
      c.in-Ok.ends.reader c.in-Ok.ends.writer (c.args.clock.now, c.args.book.now)
      (c.loop-served.clock, c.loop-served.book) (c.serve_one.new.clock, c.serve_one.new.book)
      c.loop-served.invariant.all c.in-Ok.ensures.given one.0 one.1 one.2;
}

pub returns-in_default-clause-safe : goal.returns-in_default-clause-safe
returns-in_default-clause-safe g c = safe_all g.K.Keeper g.C.Clock.tells c.args.names.prefix.now
    c.args.names.suffix.now
    (IsTalk c.args.audience g.D.Stream.Read.remaining g.D.Stream.Write.contents) g.D.Door.gives
    c.loop-served.served c.args.door.now c.loop-served.door c.args.clock.now c.loop-served.clock
    c.args.book.now c.loop-served.book c.loop-served.invariant.all

pub returns-then-is_closed-clause-served : goal.returns-then-is_closed-clause-served
returns-then-is_closed-clause-served g c = let one = rw c.new-site.ensures at c.serve_one.ensures in (
  c.if-is_closed.ensures.0 refl,
  (
    c.loop-served.served + 1,
    one_more g.K.Keeper g.C.Clock.tells c.args.names.prefix.now c.args.names.suffix.now
        (IsTalk c.args.audience g.D.Stream.Read.remaining g.D.Stream.Write.contents) g.D.Door.gives
        c.loop-served.served c.args.door.now c.loop-served.door c.accept.new.self
        c.in-Ok.ends.reader c.in-Ok.ends.writer (c.args.clock.now, c.args.book.now)
        (c.loop-served.clock, c.loop-served.book) (c.serve_one.new.clock, c.serve_one.new.book)
        c.loop-served.invariant.all c.in-Ok.ensures.given one.0 one.1 one.2,
  ),
)

pub returns-then-is_closed-clause-safe : goal.returns-then-is_closed-clause-safe
returns-then-is_closed-clause-safe g c = safe_all g.K.Keeper g.C.Clock.tells c.args.names.prefix.now
    c.args.names.suffix.now
    (IsTalk c.args.audience g.D.Stream.Read.remaining g.D.Stream.Write.contents) g.D.Door.gives
    (returns-then-is_closed-clause-served g c).1.0 c.args.door.now c.accept.new.self c.args.clock.now
    c.serve_one.new.clock c.args.book.now c.serve_one.new.book
    (returns-then-is_closed-clause-served g c).1.1

pub returns-clause-safe : goal.returns-clause-safe
returns-clause-safe g c = safe_all g.K.Keeper g.C.Clock.tells c.args.names.prefix.now
    c.args.names.suffix.now
    (IsTalk c.args.audience g.D.Stream.Read.remaining g.D.Stream.Write.contents) g.D.Door.gives
    c.loop-served.served c.args.door.now c.loop-served.door c.args.clock.now c.loop-served.clock
    c.args.book.now c.loop-served.book c.loop-served.invariant.all
