use Rattle.ring_messages.proofs.Putting.{same_data}
use Rattle.ring_reads.proofs.nodes.write_node_of_text.Goals as goal

pub returns : goal.returns
returns c = same_data c.write_object.ensures
    (rw (c.requires, c.as_str.ensures.text, c.get.ensures.value))
