use Rattle.std.proofs.Common.{rules}
use Rattle.http_sockets.proofs.server.ServerDoor.accept.Goals as goal

pub returns-in-Some-clause-given : goal.returns-in-Some-clause-given
returns-in-Some-clause-given g c = search rules
