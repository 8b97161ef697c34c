use Rattle.std.proofs.Common.{arith}
use Rattle.ring_share.proofs.crowds.shared.Goals as goal

pub returns-clause-same : goal.returns-clause-same
returns-clause-same c = rw (c.in-Some.is, c.device_of.ensures.found, c.device_of-2.ensures.found)
    (grind (
      arith,
      c.shared_tiers.ensures.region,
      c.shared_tiers.ensures.zone,
      c.shared_tiers.ensures.server,
    ))
