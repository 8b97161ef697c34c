use Rattle.std.proofs.Common.{refl}
use Rattle.ring_words.proofs.request.Limits.full.Goals as goal

pub returns-clause-devices : goal.returns-clause-devices
returns-clause-devices c = refl
