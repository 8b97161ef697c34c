use Rattle.ring_share.proofs.AllSeats.{have_is_rows}
use Rattle.ring_share.proofs.laws.seats_add_up_by_partition.Goals as goal

pub returns : goal.returns
returns c = have_is_rows
