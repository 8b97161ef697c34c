use Rattle.std.proofs.Common.{◌<◌, length, sym, ap, ◌∙◌, arith}
use Rattle.ring_place.specs.Made.{row_at}
use Rattle.ring_place.proofs.Rows.SeatRows.{length-rows_in, row_at-rows_in, row_fits}
use Rattle.ring_place.proofs.seats.Seats.row.Goals as goal

pub overflow_mul-first : goal.overflow_mul-first
overflow_mul-first c =
    let s = c.self.inside in
    let fits = row_fits s.seats.items c.args.self.now s.partitions s.replicas c.args.partition
    c.self.view_is c.self.invariant c.requires in
    omega (arith, fits.1)

pub overflow_add-result : goal.overflow_add-result
overflow_add-result c =
    let s = c.self.inside in
    let fits = row_fits s.seats.items c.args.self.now s.partitions s.replicas c.args.partition
    c.self.view_is c.self.invariant c.requires in
    omega (arith, fits.1)

pub offset_bounds-deref-first : goal.offset_bounds-deref-first
offset_bounds-deref-first c =
    let s = c.self.inside in
    let fits = row_fits s.seats.items c.args.self.now s.partitions s.replicas c.args.partition
    c.self.view_is c.self.invariant c.requires in
    omega (arith, fits.1)

pub slice_bounds-result-end : goal.slice_bounds-result-end
slice_bounds-result-end c =
    let s = c.self.inside in
    let fits = row_fits s.seats.items c.args.self.now s.partitions s.replicas c.args.partition
    c.self.view_is c.self.invariant c.requires in
    let same = ap length c.deref.ensures.value in
    omega (arith, fits.0, same)

pub returns : goal.returns
returns c =
    let s = c.self.inside in
    let long = ap length c.self.view_is in
    let count = length-rows_in s.seats.items s.partitions s.replicas in
    let lt : c.args.partition < s.partitions = omega (arith, long, count, c.requires) in
    rw c.deref.ensures.value (sym (row_at-rows_in s.seats.items s.partitions s.replicas
    c.args.partition lt) ∙ ap (λ rows. row_at rows c.args.partition) c.self.view_is)
