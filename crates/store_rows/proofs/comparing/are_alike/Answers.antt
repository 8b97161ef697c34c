use Rattle.std.proofs.lemmas.Grind.{common_steps}
use Rattle.std.proofs.Common.{arith}
use Rattle.store_rows.proofs.Steps.{alike_more}
use Rattle.store_rows.proofs.comparing.are_alike.Goals as goal

pub loop-place-preserved : goal.loop-place-preserved
loop-place-preserved g c =
    alike_more g.T.Comparable.is_alike c.args.some.now c.args.others.now c.loop-place.place
    c.index-some-place.result c.index-others-place.result c.loop-place-test.true (omega arith)
    c.index-some-place.is c.index-others-place.is
    c.loop-place.invariant (c.is_alike.ensures.0 c.if-not-is_alike.false)

pub returns : goal.returns
returns g c = grind (arith, common_steps)
