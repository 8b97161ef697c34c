use Rattle.std.proofs.Common.{ℕ, ℤ, Bor, Global, List, Option, Vec, ap, map, sym, ◌∙◌, ◌++◌, ◌∷◌, [], take, arith}
use Rattle.std.proofs.lemmas.List.{take_all}
use Rattle.std.proofs.lemmas.Result.{err_from_is_err_and}
use Rattle.store_model.specs.Contents.{moved_of}
use Rattle.store_model.specs.Entries.{NameNumber}
use Rattle.store_model.specs.declared.rows.MovedRow.{MovedRow}
use Rattle.store_rows.proofs.Places.{move_next}
use Rattle.store_rows.proofs.Reading.{fails_likewise}
use Rattle.store_rows.proofs.ring_reading.read_moves.Goals as goal

pub returns-in_err-hour : goal.returns-in_err-hour
returns-in_err-hour c =
    let p = err_from_is_err_and c.from_residual.result c.from_residual.ensures.1 in
    rw (p.1, p.2) (fails_likewise
    (λ (found : Option ℕ × Bor (List MovedRow)). (found.0, map moved_of found.1.now)) _
    (λ (moved : Vec (Option ℕ) Global). moved.items) _ c.in_err-hour.field-0.0
    c.in_err-hour.ensures (λ v stand. let next = move_next c.loop-partition.rest.now c.args.rows.now
    c.args.partitions c.loop-partition.partition v stand (omega arith) (omega arith)
    (c.loop-partition.invariant v stand).1 in (_, next.2)))

pub loop-partition-preserved : goal.loop-partition-preserved
loop-partition-preserved c = λ v stand.
    let inv = c.loop-partition.invariant v stand in
    let next = move_next c.loop-partition.rest.now c.args.rows.now c.args.partitions
    c.loop-partition.partition v stand (omega arith) (omega arith) inv.1 in
    let found = c.in_ok-hour.ensures _ next.2 in (
      c.in_ok-push.ensures.items ∙ ap (λ ys. ys ++ c.in_ok-hour.hour ∷ []) inv.0
          ∙ ap (λ (h : Option ℕ). take c.loop-partition.partition v ++ h ∷ [])
          (sym (ap (λ (f : Option ℕ × List (NameNumber × ℤ)). f.0) found)) ∙ sym next.1,
      sym (ap (λ (f : Option ℕ × List (NameNumber × ℤ)). f.1) found),
    )

pub returns : goal.returns
returns c = λ v stand.
    sym ((c.loop-partition.invariant v stand).0
    ∙ take_all c.loop-partition.partition v (omega (arith, stand.count)))
