use Rattle.ring_reads.proofs.Listing.{same_end}
use Rattle.ring_reads.proofs.whole_ring.end_ring.Goals as goal

pub returns : goal.returns
returns c = same_end c.end_list.ensures
    (rw (c.get.ensures.value, c.replicas.ensures.value, c.as_str.ensures.text, c.seats.ensures.value, c.version.ensures))
