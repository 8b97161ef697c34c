use Rattle.std.proofs.Common.{ℕ, Global, Option, Vec, map, map-id, sym, subst, ◌∙◌}
use Rattle.std.proofs.lemmas.Result.{err_from_is_err_and}
use Rattle.store_rows.specs.Inner.Found.{StandForMoves}
use Rattle.store_rows.specs.declared.ring_reading.Assignment.{Assignment}
use Rattle.store_rows.proofs.Reading.{fails_likewise}
use Rattle.store_rows.proofs.RingParts.{seats_zip}
use Rattle.store_rows.proofs.ring_reading.read_first.Goals as goal

pub returns-in_err-read_each : goal.returns-in_err-read_each
returns-in_err-read_each c =
    let p = err_from_is_err_and c.from_residual.result c.from_residual.ensures.1 in
    rw (p.1, p.2) (fails_likewise (λ (seats : Vec ℕ Global). map (λ (id : ℕ). id) seats.items) _
    (λ (a : Assignment). (a.seats.items, a.moved.items)) _ c.in_err-read_each.field-0.0
    c.in_err-read_each.ensures (λ places stand. (places.0, seats_zip _ places.0 stand.0)))

pub returns-in_err-read_moves : goal.returns-in_err-read_moves
returns-in_err-read_moves c =
    let r = c.from_residual-in_err-read_moves in
    let p = err_from_is_err_and r.result r.ensures.1 in
    rw (p.1, p.2) (fails_likewise (λ (moved : Vec (Option ℕ) Global). moved.items) _
    (λ (a : Assignment). (a.seats.items, a.moved.items)) _ c.in_err-read_moves.field-0.0
    c.in_err-read_moves.ensures (λ places stand. (
      places.1,
      subst (λ n. StandForMoves c.args.tables.now.moved.now n places.1)
          (sym c.partition_count.ensures.value) stand.1,
    )))

pub returns : goal.returns
returns c = λ places stand.
    let seats = c.in_ok-read_each.ensures places.0 (seats_zip _ places.0 stand.0)
    ∙ map-id c.in_ok-read_each.field-0.items in
    let moved = c.in_ok-read_moves.ensures places.1
    (subst (λ n. StandForMoves c.args.tables.now.moved.now n places.1)
    (sym c.partition_count.ensures.value) stand.1) in
    λ i. (seats i, moved i)
