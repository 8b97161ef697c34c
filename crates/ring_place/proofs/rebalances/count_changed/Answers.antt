use Rattle.std.proofs.Common.{true, false, sym, ◌∙◌, arith}
use Rattle.ring_place.proofs.Finishing.FinishedRing.{changed_more}
use Rattle.ring_place.proofs.rebalances.count_changed.Goals as goal
use Rattle.ring_place.proofs.rebalances.count_changed.Goals.{then-ne, else-ne}

pub loop-replica-preserved : goal.loop-replica-preserved
loop-replica-preserved c = elim c.if-ne.branch [
  | then-ne w ↦ record {
    count = changed_more c.args.old.now c.args.new.now c.loop-replica.replica c.loop-replica.changed
        c.if-ne.changed true c.loop-replica.invariant.count (sym w.if-ne.true ∙ c.ne.ensures)
        w.changed-is;
    few = (let few = c.loop-replica.invariant.few in let is = w.changed-is in
        omega (arith, few, is));
  }
  | else-ne w ↦ record {
    count = changed_more c.args.old.now c.args.new.now c.loop-replica.replica c.loop-replica.changed
        c.if-ne.changed false c.loop-replica.invariant.count (sym w.if-ne.false ∙ c.ne.ensures)
        (let is = w.changed-is in omega (arith, is));
    few = (let few = c.loop-replica.invariant.few in let is = w.changed-is in
        omega (arith, few, is));
  }
]
