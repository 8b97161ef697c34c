use Rattle.ring_messages.proofs.Putting.{same_data}
use Rattle.ring_reads.proofs.whole_store.write_listed.Goals as goal

pub returns : goal.returns
returns c = same_data c.write_object.ensures (rw (c.as_str.ensures.text, c.version.ensures))
