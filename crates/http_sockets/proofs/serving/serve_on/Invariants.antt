use Rattle.std.proofs.Common.{◌≡◌, ◌-◌, ◌≤◌, ◌^◌}
use Rattle.http_sockets.specs.Connections.{ConnectionsServed, IsTalk}
use Rattle.http_sockets.proofs.serving.serve_on.Given as goal

abbrev pub invariant-loop-served : goal.invariant-loop-served
invariant-loop-served g l = record {
  within : l.served ≤ 2 ^ 64 - 1;
  open_book : g.K.Keeper.fault_count l.book.keeper ≡ 0;
  all : ConnectionsServed g.K.Keeper g.C.Clock.tells l.names.prefix.now l.names.suffix.now
      (IsTalk l.audience g.D.Stream.Read.remaining g.D.Stream.Write.contents) g.D.Door.gives l.served
      l.fn.door l.door (l.fn.clock, l.fn.book) (l.clock, l.book);
}

abbrev pub decreases-loop-served : goal.decreases-loop-served
decreases-loop-served g l = 2 ^ 64 - 1 - l.served
