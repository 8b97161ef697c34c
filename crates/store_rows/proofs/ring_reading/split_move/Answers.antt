use Rattle.std.proofs.Common.{ℕ, Bor, List, Option, Some, ap, map, ◌∙◌}
use Rattle.std.proofs.lemmas.Result.{err_from_is_err_and}
use Rattle.store_model.specs.Contents.{moved_of}
use Rattle.store_model.specs.declared.rows.MovedRow.{MovedRow}
use Rattle.store_rows.proofs.Places.{hour_there, moved_there}
use Rattle.store_rows.proofs.Reading.{fails_where, one_number}
use Rattle.store_rows.proofs.ring_reading.split_move.Goals as goal

pub returns-in_err-number32-in-Some : goal.returns-in_err-number32-in-Some
returns-in_err-number32-in-Some c =
    let p = err_from_is_err_and c.from_residual.result c.from_residual.ensures.1 in
    rw (p.1, p.2) (fails_where
    (λ (found : Option ℕ × Bor (List MovedRow)). (found.0, map moved_of found.1.now)) _ c.in_err-number32-in-Some.field-0.0 (λ bad v s.
    let there = moved_there c.in-Some.row.now c.in-Some.rest.now c.args.rows.now c.args.partition
    v.0 v.1 c.from.result s c.in-Some.ensures.cases.0 c.from.ensures c.if-row-from.true in
    hour_there c.in-Some.row.now there.0 c.in_err-number32-in-Some.field-0.0 there.2 there.3
    c.in_err-number32-in-Some.ensures bad))

pub returns-in_ok-number32-in-Some : goal.returns-in_ok-number32-in-Some
returns-in_ok-number32-in-Some c = λ v s.
    let there = moved_there c.in-Some.row.now c.in-Some.rest.now c.args.rows.now c.args.partition
    v.0 v.1 c.from.result s c.in-Some.ensures.cases.0 c.from.ensures c.if-row-from.true in
    let hour = one_number there.0 c.in_ok-number32-in-Some.field-0 c.in-Some.row.now.hour there.2
    there.3 c.in_ok-number32-in-Some.ensures.0 in
    λ i. ((there.1 ∙ ap Some hour) i, there.4 i)
