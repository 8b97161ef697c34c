use Rattle.std.proofs.Common.{refl}
use Rattle.http_sockets.proofs.Chains.{safe_same}
use Rattle.http_sockets.proofs.serving.serve_connections.Goals as goal

pub returns-in_err-door-clause-safe : goal.returns-in_err-door-clause-safe
returns-in_err-door-clause-safe g c = safe_same g.K.Keeper g.C.Clock.tells c.args.names.prefix.now
    c.args.names.suffix.now c.args.clock.now c.args.book.now c.args.book.now refl
