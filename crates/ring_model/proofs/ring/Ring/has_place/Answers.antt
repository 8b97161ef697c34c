use Rattle.ring_model.proofs.ring.Ring.has_place.Goals as goal

pub returns : goal.returns
returns c = rw (← c.self.view_is) (rw c.deref.ensures.value at c.has_place_in.ensures)
