use Rattle.std.proofs.lemmas.Grind.{common_steps}
use Rattle.std.proofs.Common.{arith}
use Rattle.ring_model.specs.Rings.{is_before, seen}
use Rattle.ring_model.proofs.ByName.{kept_more}
use Rattle.ring_model.proofs.rings.push_before.Goals as goal

pub loop-entry-preserved : goal.loop-entry-preserved
loop-entry-preserved c = rw (c.in_ok-push_if.ensures, c.is_before.ensures)
    (kept_more (λ e. is_before e.0 c.args.name.now) c.args.rings.now c.loop-entry.entry-index
    c.entry-item.result (omega arith) c.entry-item.is (seen c.loop-entry.into.items)
    (seen c.args.into.now.items) c.loop-entry.invariant)

pub returns : goal.returns
returns c = grind (arith, common_steps)
