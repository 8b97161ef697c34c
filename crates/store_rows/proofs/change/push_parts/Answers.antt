use Rattle.store_rows.proofs.Pushes.{pushed_so}
use Rattle.store_rows.proofs.change.push_parts.Goals as goal

pub loop-row-preserved : goal.loop-row-preserved
loop-row-preserved c = pushed_so _ _ _ _ c.loop-row.yielded c.in-Some.row c.part_change.result
    c.in_ok-push.ensures.items c.loop-row.invariant c.part_change.ensures
