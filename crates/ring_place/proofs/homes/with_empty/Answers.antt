use Rattle.std.proofs.Common.{length, arith}
use Rattle.ring_deal.proofs.Orders.{order_below}
use Rattle.ring_place.proofs.homes.with_empty.Goals as goal

pub row-requires : goal.row-requires
row-requires c = order_below (length c.args.seats.now) c.args.order.now c.requires
    c.loop-partition.partition-index (omega arith)
