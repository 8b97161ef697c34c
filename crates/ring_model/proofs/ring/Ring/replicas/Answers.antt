use Rattle.std.proofs.Common.{ap}
use Rattle.ring_model.specs.Ring.{RingRecord}
use Rattle.ring_model.proofs.ring.Ring.replicas.Goals as goal

pub returns-clause-value : goal.returns-clause-value
returns-clause-value c = ap (λ (r : RingRecord). r.replicas) c.self.view_is
