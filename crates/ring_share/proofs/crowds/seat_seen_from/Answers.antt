use Rattle.std.proofs.Common.{◌∙◌, sym, ◌≢◌, arith}
use Rattle.ring_share.proofs.Rows.{others_at}
use Rattle.ring_share.proofs.crowds.seat_seen_from.Goals as goal

pub returns-else-other-replica : goal.returns-else-other-replica
returns-else-other-replica c = c.seat.ensures ∙ sym (others_at c.args.ring.now c.args.partition
    c.args.replica c.args.other c.requires.other (let ne : c.args.other ≢ c.args.replica =
    omega arith in ne))
