use Rattle.std.proofs.Common.{ℕ, Option, ap, sym, ◌∙◌, ◌++◌, ◌∷◌, [], ◌*◌, take, drop, arith}
use Rattle.std.proofs.lemmas.Result.{err_from_is_err_and}
use Rattle.store_rows.specs.declared.ring_reading.Assignment.{Assignment}
use Rattle.store_rows.proofs.OneRings.{one_hour}
use Rattle.store_rows.proofs.Places.{all_seats, hour_read, part_there, seats_then, small_seats}
use Rattle.store_rows.proofs.Reading.{reads_likewise}
use Rattle.store_rows.proofs.ring_reading.read_parts.Goals as goal

pub returns-in_err-last_move : goal.returns-in_err-last_move
returns-in_err-last_move c =
    let r = c.from_residual-in_err-last_move in
    let p = err_from_is_err_and r.result r.ensures.1 in
    rw (p.1, p.2) (reads_likewise _ (λ (a : Assignment). (a.seats.items, a.moved.items)) _
    c.in_err-last_move.field-0.0 c.in_err-last_move.ensures
    (λ places stand. let there = part_there c.args.rows.now places stand c.loop-row.row-index
    c.row-item.result c.loop-row-test.true c.row-item.is in
    (there.0, (hour_read there.0 c.row-item.result.hour there.1 there.2, there.2))))

pub loop-row-preserved : goal.loop-row-preserved
loop-row-preserved c = λ places stand.
    let inv = c.loop-row.invariant places stand in
    let there = part_there c.args.rows.now places stand c.loop-row.row-index c.row-item.result
    c.loop-row-test.true c.row-item.is in
    let ids = take stand.replicas (drop (c.loop-row.row-index * stand.replicas) places.0) in
    let hour = one_hour there.0 c.in_ok-last_move.field-0
    (sym (hour_read there.0 c.row-item.result.hour there.1 there.2) ∙ c.in_ok-last_move.ensures.0)
    in (
      c.in_ok-push_seats.ensures ids (c.deref.ensures.value ∙ there.4)
          (small_seats places.0 stand.replicas (c.loop-row.row-index * stand.replicas) stand.seats)
          ∙ ap (λ ys. ys ++ ids) inv.0
          ∙ sym (seats_then places.0 stand.replicas c.loop-row.row-index),
      c.in_ok-push.ensures.items ∙ ap (λ ys. ys ++ c.in_ok-last_move.field-0 ∷ []) inv.1
          ∙ ap (λ (h : Option ℕ). take c.loop-row.row-index places.1 ++ h ∷ []) (sym hour)
          ∙ sym there.3,
    )

pub returns : goal.returns
returns c = λ places stand.
    let inv = c.loop-row.invariant places stand in
    let all = all_seats c.args.rows.now places stand c.loop-row.row-index (omega arith) in
    λ i. (sym (inv.0 ∙ all.0) i, sym (inv.1 ∙ all.1) i)
