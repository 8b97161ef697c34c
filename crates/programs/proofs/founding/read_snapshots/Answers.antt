use Rattle.std.proofs.lemmas.Grind.{common_steps}
use Rattle.std.proofs.Common.{◌∙◌, arith}
use Rattle.std.proofs.lemmas.Result.{err_from_is_err_and}
use Rattle.programs.specs.Left.{GivesNoText, GivesText}
use Rattle.programs.proofs.Foundings.{held_pushed, no_memory_at, no_rings_at}
use Rattle.programs.proofs.founding.read_snapshots.Goals as goal

pub returns-in_err-snapshot-clause-failed : goal.returns-in_err-snapshot-clause-failed
returns-in_err-snapshot-clause-failed g c =
    let p = err_from_is_err_and c.from_residual.result c.from_residual.ensures.1 in
    rw (p.1, p.2) (no_rings_at (GivesText g.S.Stores) c.args.names.now c.loop-name.name-index _
    (omega arith) c.loop-name.snapshots.items c.loop-name.invariant.0 (GivesNoText g.S.Stores)
    g.E.Write.contents c.args.errors.now c.read_snapshot.new.errors c.in_err-snapshot.field-0.0
    (rw c.loop-name.invariant.1 at c.in_err-snapshot.ensures.failed))

pub returns-in-Err-clause-failed : goal.returns-in-Err-clause-failed
returns-in-Err-clause-failed g c = no_memory_at (GivesText g.S.Stores) (GivesNoText g.S.Stores)
    g.E.Write.contents c.args.errors.now c.read_snapshot.new.errors c.args.names.now
    c.loop-name.name-index c.loop-name.snapshots.items (omega arith) c.loop-name.invariant.0
    (c.in_ok-snapshot.ensures.untold ∙ c.loop-name.invariant.1)

pub loop-name-preserved : goal.loop-name-preserved
loop-name-preserved g c = (
  rw c.in-Ok.ensures.items (held_pushed (GivesText g.S.Stores) c.args.names.now
      c.loop-name.name-index _ (omega arith) c.loop-name.snapshots.items c.loop-name.invariant.0
      c.in_ok-snapshot.snapshot c.in_ok-snapshot.ensures.held),
  c.in_ok-snapshot.ensures.untold ∙ c.loop-name.invariant.1,
)

pub returns-clause-held : goal.returns-clause-held
returns-clause-held g c = grind (arith, common_steps)
