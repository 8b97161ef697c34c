use Rattle.ring_model.proofs.ring.Ring.has_device.Goals as goal

pub returns : goal.returns
returns c = rw (← c.self.view_is, ← c.deref.ensures.value) cc
