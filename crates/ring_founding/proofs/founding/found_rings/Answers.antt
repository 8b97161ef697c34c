use Rattle.std.proofs.Common.{arith}
use Rattle.std.proofs.lemmas.Result.{err_from_is_err_and}
use Rattle.ring_founding.proofs.Founded.{founded_pushed, unfounded_at}
use Rattle.ring_founding.proofs.founding.found_rings.Goals as goal

pub returns-in_err-founded-clause-unfounded : goal.returns-in_err-founded-clause-unfounded
returns-in_err-founded-clause-unfounded c =
    let p = err_from_is_err_and c.from_residual.result c.from_residual.ensures.1 in
    rw (p.1, p.2) (unfounded_at c.args.terms c.args.rings c.loop-snapshot.founded
    c.args.snapshots.now c.loop-snapshot.snapshot-index c.snapshot-item.result
    c.in_err-founded.field-0.0 (omega arith) c.snapshot-item.is c.loop-snapshot.invariant
    c.in_err-founded.ensures.unfounded)

pub loop-snapshot-preserved : goal.loop-snapshot-preserved
loop-snapshot-preserved c = founded_pushed c.args.terms c.args.rings c.loop-snapshot.founded
    c.in_ok-founded.founded c.args.snapshots.now c.loop-snapshot.snapshot-index
    c.snapshot-item.result (omega arith) c.snapshot-item.is c.loop-snapshot.invariant
    c.in_ok-founded.ensures.founded
