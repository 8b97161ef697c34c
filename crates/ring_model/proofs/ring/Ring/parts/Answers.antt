use Rattle.ring_model.proofs.ring.Ring.parts.Goals as goal

pub returns-clause-parts : goal.returns-clause-parts
returns-clause-parts c = rw (← c.self.view_is) c.copy.ensures
