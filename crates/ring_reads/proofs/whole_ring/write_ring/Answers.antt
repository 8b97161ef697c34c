use Rattle.ring_messages.proofs.Putting.{same_data}
use Rattle.ring_reads.proofs.Listing.{two_lists}
use Rattle.ring_reads.proofs.whole_ring.write_ring.Goals as goal

pub returns : goal.returns
returns c =
    same_data
    (two_lists c.in_ok-begin_list.ensures c.in_ok-write_devices.ensures c.in_ok-next_list.ensures
    c.in_ok-write_versions.ensures c.end_ring.ensures)
    (rw (c.balance.ensures, c.dispersion.ensures, c.locked_count.ensures, c.min_hours.ensures, c.next_id.ensures, c.get.ensures.value, c.power.ensures.value))
