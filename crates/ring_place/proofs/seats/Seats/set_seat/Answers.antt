use Rattle.std.proofs.Common.{Some, arith}
use Rattle.ring_place.proofs.Rows.WrittenSeats.{seat_fits, seat_written}
use Rattle.ring_place.proofs.seats.Seats.set_seat.Goals as goal

pub overflow_mul-partition : goal.overflow_mul-partition
overflow_mul-partition c =
    let s = c.self.inside in
    let fits = seat_fits s.seats.items c.args.self.now s.partitions s.replicas c.args.partition
    c.args.replica c.self.view_is c.self.invariant c.requires.partition c.requires.replica in
    omega (arith, fits.1)

pub overflow_add-partition : goal.overflow_add-partition
overflow_add-partition c =
    let s = c.self.inside in
    let fits = seat_fits s.seats.items c.args.self.now s.partitions s.replicas c.args.partition
    c.args.replica c.self.view_is c.self.invariant c.requires.partition c.requires.replica in
    omega (arith, fits.1, fits.2)

pub index_mut-requires : goal.index_mut-requires
index_mut-requires c =
    let s = c.self.inside in
    let fits = seat_fits s.seats.items c.args.self.now s.partitions s.replicas c.args.partition
    c.args.replica c.self.view_is c.self.invariant c.requires.partition c.requires.replica in
    let ok = s.seats.ok in
    omega (arith, fits.0, ok)

pub returns : goal.returns
returns c =
    let s = c.self.inside in
    seat_written s.seats.items c.args.self.now s.partitions s.replicas c.args.partition
    c.args.replica (Some c.args.device) c.self.view_is c.self.invariant c.requires.partition
    c.requires.replica
