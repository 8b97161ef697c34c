use Rattle.std.proofs.Common.{refl}
use Rattle.store_model.specs.declared.change.RowChange.TheVariants.{DropDevice}
use Rattle.store_rows.proofs.Pushes.{pushed_so}
use Rattle.store_rows.proofs.change.push_drops.Goals as goal

pub loop-key-preserved : goal.loop-key-preserved
loop-key-preserved c = pushed_so _ _ _ _ c.loop-key.yielded c.in-Some.key (DropDevice c.in-Some.key)
    c.in_ok-push.ensures.items c.loop-key.invariant refl
