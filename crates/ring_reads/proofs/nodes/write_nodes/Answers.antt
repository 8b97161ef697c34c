use Rattle.ring_reads.proofs.Listing.{one_list}
use Rattle.ring_reads.proofs.nodes.write_nodes.Goals as goal

pub returns : goal.returns
returns c = one_list c.in_ok-begin_list.ensures c.in_ok-write_each_node.ensures c.end_list.ensures
