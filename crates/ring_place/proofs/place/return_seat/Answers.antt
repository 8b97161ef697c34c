use Rattle.std.proofs.lemmas.Grind.{elements}
use Rattle.std.proofs.Common.{None, arith, ap, length}
use Rattle.std.proofs.lemmas.Option.{slice_get_within}
use Rattle.ring_room.specs.Places.{id_at}
use Rattle.ring_place.specs.Made.{row_at}
use Rattle.ring_place.specs.Inner.Placing.{Puts}
use Rattle.ring_place.proofs.place.return_seat.Goals as goal

pub bounds-row-replica : goal.bounds-row-replica
bounds-row-replica c =
    let p = c.args.partition in
    let within = slice_get_within (row_at c.args.seats.now p) c.args.replica None c.requires.empty in
    let same = (c.requires.can.can p c.requires.partition).as_many in
    let read = ap length c.row.ensures in
    omega (arith, within, same, read)

pub returns-then-is_on-clause-put : goal.returns-then-is_on-clause-put
returns-then-is_on-clause-put c = Puts c.args.replica c.requires.empty (record {
  id = id_at c.args.room.now.devices c.find_place-place.result.place;
  chosen = c.find_place-place.ensures.chosen;
  filled = c.put_on.ensures.room;
  written = c.put_on.ensures.seats;
  is_load = c.put_on.ensures.load;
})

pub offset_bounds-row-replica : goal.offset_bounds-row-replica
offset_bounds-row-replica c = grind (arith, elements)
