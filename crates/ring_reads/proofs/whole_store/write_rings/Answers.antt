use Rattle.ring_reads.proofs.Listing.{one_list}
use Rattle.ring_reads.proofs.whole_store.write_rings.Goals as goal

pub returns : goal.returns
returns c = one_list c.in_ok-begin_list.ensures c.in_ok-write_each_ring.ensures c.end_list.ensures
