use Rattle.std.proofs.Common.{◌∙◌, sym, length}
use Rattle.ring_place.proofs.Gathering.NoSurplus.{no_surplus}
use Rattle.ring_deal.proofs.Orders.{order_is_below}
use Rattle.ring_place.proofs.gather.gather_over.Goals as goal

pub returns-else-has_surplus-clause-pass : goal.returns-else-has_surplus-clause-pass
returns-else-has_surplus-clause-pass c = no_surplus c.args.pass c.args.order.now c.args.was.now
    c.args.kept.now c.args.locked.now c.args.seats.now c.requires.later
    (sym c.has_surplus.ensures ∙ c.if-has_surplus.false) c.requires.rows
    (order_is_below (length c.args.seats.now) c.args.order.now c.requires.order) c.requires.filled
