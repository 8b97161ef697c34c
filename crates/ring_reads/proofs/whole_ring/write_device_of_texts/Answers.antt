use Rattle.std.proofs.Common.{rules}
use Rattle.ring_messages.proofs.Putting.{same_data}
use Rattle.ring_reads.proofs.whole_ring.write_device_of_texts.Goals as goal

pub returns : goal.returns
returns c = same_data c.write_object.ensures (search rules)
