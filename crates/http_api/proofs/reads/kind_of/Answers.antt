use Rattle.std.proofs.Common.{refl}
use Rattle.http_api.proofs.reads.kind_of.Goals as goal

pub returns-in-Log : goal.returns-in-Log
returns-in-Log c = rw c.in-Log.is refl
