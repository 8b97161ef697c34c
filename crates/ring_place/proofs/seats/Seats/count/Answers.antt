use Rattle.std.proofs.Common.{ap, length, arith}
use Rattle.ring_place.proofs.Rows.SeatRows.{length-rows_in}
use Rattle.ring_place.proofs.seats.Seats.count.Goals as goal

pub returns : goal.returns
returns c =
    let s = c.self.inside in
    let long = ap length c.self.view_is in
    let count = length-rows_in s.seats.items s.partitions s.replicas in
    omega (arith, long, count)
