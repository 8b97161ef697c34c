use Rattle.std.proofs.lemmas.Grind.{common_steps}
use Rattle.std.proofs.Common.{arith}
use Rattle.ring_metrics.specs.Locks.{hours_left}
use Rattle.ring_metrics.proofs.Locking.{left_more}
use Rattle.ring_metrics.proofs.locks.left_hours.Goals as goal

pub loop-moved-preserved : goal.loop-moved-preserved
loop-moved-preserved c = left_more (hours_left c.min_hours-min_hours.result c.args.hour)
    c.moves-moves.result.now c.loop-moved.moved-index c.hours_left.result c.loop-moved.left.items
    c.push_left.new.into.items (omega arith) c.loop-moved.invariant c.hours_left.ensures.value
    c.in_ok-push_left.ensures

pub returns : goal.returns
returns c = grind (arith, common_steps)
