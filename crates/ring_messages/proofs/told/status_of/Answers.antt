use Rattle.std.proofs.Common.{refl}
use Rattle.ring_messages.proofs.told.status_of.Goals as goal

pub returns-in-NumberReused : goal.returns-in-NumberReused
returns-in-NumberReused c = rw c.in-NumberReused.is refl
