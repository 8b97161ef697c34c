use Rattle.builder.proofs.Rests.{lock_stays}
use Rattle.builder.proofs.laws.a_lock_stays.Goals as goal

pub returns : goal.returns
returns c = lock_stays
