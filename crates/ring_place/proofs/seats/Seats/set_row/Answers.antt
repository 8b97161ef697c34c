use Rattle.std.proofs.Common.{length, set, sym, ap, ◌∙◌, arith}
use Rattle.ring_place.proofs.Rows.SeatRows.{row_fits}
use Rattle.ring_place.proofs.Rows.WrittenRows.{row_before, rows_written}
use Rattle.ring_place.proofs.seats.Seats.set_row.Goals as goal

pub overflow_mul-first : goal.overflow_mul-first
overflow_mul-first c =
    let s = c.self.inside in
    let fits = row_fits s.seats.items c.args.self.now s.partitions s.replicas c.args.partition
    c.self.view_is c.self.invariant c.requires.partition in
    omega (arith, fits.1)

pub overflow_add-first : goal.overflow_add-first
overflow_add-first c =
    let s = c.self.inside in
    let fits = row_fits s.seats.items c.args.self.now s.partitions s.replicas c.args.partition
    c.self.view_is c.self.invariant c.requires.partition in
    omega (arith, fits.1)

pub offset_bounds-deref_mut-first : goal.offset_bounds-deref_mut-first
offset_bounds-deref_mut-first c =
    let s = c.self.inside in
    let fits = row_fits s.seats.items c.args.self.now s.partitions s.replicas c.args.partition
    c.self.view_is c.self.invariant c.requires.partition in
    omega (arith, fits.1)

pub slice_bounds-copy_from_slice-end : goal.slice_bounds-copy_from_slice-end
slice_bounds-copy_from_slice-end c =
    let s = c.self.inside in
    let fits = row_fits s.seats.items c.args.self.now s.partitions s.replicas c.args.partition
    c.self.view_is c.self.invariant c.requires.partition in
    omega (arith, fits.0, ap length c.deref_mut.ensures.value)

pub copy_from_slice-requires : goal.copy_from_slice-requires
copy_from_slice-requires c =
    let s = c.self.inside in
    let was = row_before s.seats c.args.self.now s.partitions s.replicas c.args.partition
    c.deref_mut.result.now c.self.view_is c.self.invariant c.requires.partition
    c.deref_mut.ensures.value in
    ap length was ∙ sym c.requires.long

pub returns : goal.returns
returns c =
    let s = c.self.inside in
    rows_written s.seats c.args.self.now s.partitions s.replicas c.args.partition
    c.deref_mut.result.now c.copy_from_slice.new.self c.self.view_is c.self.invariant
    c.requires.partition
    c.deref_mut.ensures.value c.copy_from_slice.auto.self
    ∙ ap (λ r. set c.args.self.now c.args.partition r) c.copy_from_slice.ensures.after
