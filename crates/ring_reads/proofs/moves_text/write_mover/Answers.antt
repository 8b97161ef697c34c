use Rattle.ring_messages.proofs.Putting.{same_data}
use Rattle.ring_reads.proofs.moves_text.write_mover.Goals as goal

pub returns : goal.returns
returns c = λ moves gives takes. same_data c.write_object.ensures (rw (gives, takes))
