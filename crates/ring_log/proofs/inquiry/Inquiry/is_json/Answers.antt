use Rattle.std.proofs.Common.{refl}
use Rattle.ring_log.proofs.inquiry.Inquiry.is_json.Goals as goal

pub returns-in-Log : goal.returns-in-Log
returns-in-Log c = rw c.in-Log.is refl
