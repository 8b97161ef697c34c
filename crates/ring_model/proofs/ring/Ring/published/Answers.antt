use Rattle.std.proofs.Common.{◌∙◌}
use Rattle.ring_model.proofs.Published.{text_of_found}
use Rattle.ring_model.proofs.ring.Ring.published.Goals as goal

pub returns : goal.returns
returns c = rw (← c.self.view_is) (rw c.deref.ensures.value at c.text_at.ensures ∙ text_of_found
    c.self.inside.parts.published.items c.args.version)
