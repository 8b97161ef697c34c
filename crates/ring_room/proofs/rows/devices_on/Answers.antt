use Rattle.std.proofs.Common.{◌<◌, ◌++◌, ◌∷◌, [], length, sym, ap, ◌∙◌, arith}
use Rattle.std.proofs.lemmas.List.{length-set, take_more_set}
use Rattle.ring_room.proofs.Searching.RowDevices.{devices_more_none, devices_more_some}
use Rattle.ring_room.proofs.rows.devices_on.Goals as goal
use Rattle.ring_room.proofs.rows.devices_on.Goals.{in-Some, in_default}

pub loop-seat-preserved : goal.loop-seat-preserved
loop-seat-preserved c = elim c.match-seat.branch [
  | in-Some w ↦
      let lt : c.loop-seat.seat-index < length c.args.row.now = omega arith in
      let room : c.loop-seat.count < length c.loop-seat.ids =
      (let few = c.loop-seat.invariant.few in let long = c.loop-seat.invariant.long in
      omega (arith, few, long, lt, c.requires)) in
      rw (w.ids-is, w.count-is) (record {
        taken = take_more_set c.loop-seat.ids c.loop-seat.count w.in-Some.id room ∙ ap (λ xs. xs ++
            w.in-Some.id ∷ []) c.loop-seat.invariant.taken
            ∙ sym (devices_more_some c.args.row.now c.loop-seat.seat-index w.in-Some.id lt
            w.in-Some.is);
        few = omega (arith, c.loop-seat.invariant.few);
        long = length-set c.loop-seat.ids c.loop-seat.count w.in-Some.id ∙
            c.loop-seat.invariant.long;
      })
  | in_default w ↦
      let lt : c.loop-seat.seat-index < length c.args.row.now = omega arith in
      rw (w.ids-is, w.count-is) (record {
        taken = c.loop-seat.invariant.taken ∙ sym (devices_more_none c.args.row.now
            c.loop-seat.seat-index lt w.in_default.is);
        few = omega (arith, c.loop-seat.invariant.few);
        long = c.loop-seat.invariant.long;
      })
]
