use Rattle.std.proofs.Common.{Global, Vec, map, ap, sym, ◌∙◌, arith}
use Rattle.std.proofs.lemmas.List.{take_all}
use Rattle.std.proofs.lemmas.Result.{err_from_is_err_and}
use Rattle.store_rows.proofs.Reading.{as_many, fails_likewise, next_thing, stands_at}
use Rattle.store_rows.proofs.row_reading.read_each.Goals as goal

pub returns-in_err-read : goal.returns-in_err-read
returns-in_err-read g c =
    let p = err_from_is_err_and c.from_residual.result c.from_residual.ensures.1 in
    rw (p.1, p.2) (fails_likewise g.T.Readable.value (g.T.Readable.stands c.row-item.result)
    (λ (things : Vec g.row.T-Thing.Denot Global). map g.T.Readable.value things.items) _
    c.in_err-read.field-0.0 c.in_err-read.ensures
    (λ things all. let at = stands_at g.T.Readable.stands c.args.rows.now things
    c.loop-row.row-index c.row-item.result all c.loop-row-test.true c.row-item.is in
    (at.0, at.1)))

pub loop-row-preserved : goal.loop-row-preserved
loop-row-preserved g c = λ things all.
    ap (map g.T.Readable.value) c.in_ok-push.ensures.items ∙ next_thing g.T.Readable.stands g.T.Readable.value c.args.rows.now things c.loop-row.row-index
    c.row-item.result c.in_ok-read.field-0 c.loop-row.things.items all c.loop-row-test.true
    c.row-item.is c.in_ok-read.ensures (c.loop-row.invariant things all)

pub returns : goal.returns
returns g c = λ things all.
    let count = as_many g.T.Readable.stands c.args.rows.now things all in
    sym (c.loop-row.invariant things all ∙ take_all c.loop-row.row-index things (omega arith))
