use Rattle.ring_reads.proofs.locks.write_end.Goals as goal

pub returns : goal.returns
returns c = c.write_object.ensures
