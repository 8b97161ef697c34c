use Rattle.std.proofs.Common.{ap, ◌∙◌}
use Rattle.ring_model.specs.Ring.{changed}
use Rattle.ring_model.proofs.draft.Draft.finish.Goals as goal

pub returns : goal.returns
returns c = c.of_parts.ensures ∙ rw c.risen.ensures (ap changed c.self.view_is)
