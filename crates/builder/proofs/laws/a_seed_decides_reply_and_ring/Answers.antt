use Rattle.builder.proofs.Previews.{one_step}
use Rattle.builder.proofs.laws.a_seed_decides_reply_and_ring.Goals as goal

pub returns-clause-reply : goal.returns-clause-reply
returns-clause-reply c limits rings others left after hour seed name told other same first second =
    (one_step limits others hour name seed other after second rings told left same first).0

pub returns-clause-ring : goal.returns-clause-ring
returns-clause-ring c limits rings others left after hour seed name told other same first second =
    (one_step limits others hour name seed other after second rings told left same first).1
