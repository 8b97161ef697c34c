use Rattle.ring_messages.proofs.Putting.{same_data}
use Rattle.ring_reads.proofs.Listing.{one_list}
use Rattle.ring_reads.proofs.locks.write_locks.Goals as goal

pub returns : goal.returns
returns c =
    same_data
    (one_list c.in_ok-begin_list.ensures c.in_ok-write_ends.ensures c.end_locks.ensures)
    (rw (c.locked_count.ensures, c.min_hours.ensures, c.partitions_of.ensures))
