use Rattle.std.proofs.Common.{ap, ◌∙◌}
use Rattle.ring_model.specs.Ring.{RingRecord, with_min_hours}
use Rattle.ring_model.proofs.ring.Ring.with_min_hours.Goals as goal

pub returns : goal.returns
returns c = rw c.risen.ensures (ap (λ (r : RingRecord). with_min_hours r c.args.hours)
    (c.in_ok-parts.ensures ∙ c.self.view_is))
