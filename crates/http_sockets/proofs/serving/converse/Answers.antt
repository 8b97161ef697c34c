use Rattle.std.proofs.Common.{rules}
use Rattle.http_sockets.proofs.serving.converse.Goals as goal

pub returns-clause-served : goal.returns-clause-served
returns-clause-served g c = search rules

pub returns-clause-stopped : goal.returns-clause-stopped
returns-clause-stopped g c = search rules
