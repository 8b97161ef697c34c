use Rattle.std.proofs.Common.{rules}
use Rattle.ring_messages.proofs.Putting.{same_data}
use Rattle.ring_reads.proofs.Listing.{one_list}
use Rattle.ring_reads.proofs.moves_text.write_moves.Goals as goal

pub returns : goal.returns
returns c =
    same_data
    (one_list c.in_ok-begin_list.ensures c.in_ok-write_movers.ensures c.end_moves.ensures)
    (search rules)
