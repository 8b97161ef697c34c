use Rattle.std.proofs.Common.{refl}
use Rattle.store_model.specs.declared.change.RowChange.TheVariants.{AddDevice}
use Rattle.store_rows.proofs.Pushes.{pushed_so}
use Rattle.store_rows.proofs.change.push_devices.Goals as goal

pub loop-row-preserved : goal.loop-row-preserved
loop-row-preserved c = pushed_so _ _ _ _ c.loop-row.yielded c.in-Some.row (AddDevice c.in-Some.row)
    c.in_ok-push.ensures.items c.loop-row.invariant refl
