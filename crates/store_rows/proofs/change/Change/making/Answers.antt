use Rattle.std.proofs.Common.{[], refl}
use Rattle.std.proofs.lemmas.Result.{IfOk-weaker}
use Rattle.store_rows.proofs.AtName.{nothing_goes, no_rings}
use Rattle.store_rows.proofs.change.Change.making.Goals as goal

pub returns-clause-counted : goal.returns-clause-counted
returns-clause-counted c =
    let rings = c.args.rings.now in
    IfOk-weaker c.of_rows.result _ _ (λ change counted. counted [] rings no_rings
    c.rings_are_proper.ensures (nothing_goes rings) c.in_ok-of_all.ensures refl)
    c.of_rows.ensures.counted
