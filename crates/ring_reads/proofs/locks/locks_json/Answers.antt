use Rattle.std.proofs.Common.{subst, sym}
use Rattle.ring_messages.proofs.Putting.{alone}
use Rattle.ring_metrics.specs.Locks.{AreLockEnds}
use Rattle.ring_reads.specs.LocksJson.{locks_data}
use Rattle.ring_reads.proofs.locks.locks_json.Goals as goal

pub returns : goal.returns
returns c =
    let ring = c.args.ring.now in
    let hour = c.args.hour in
    let ends = c.deref.result.now in
    let d = locks_data c.args.name.now ring hour ends in (
      ends,
      subst (AreLockEnds ring hour) (sym c.deref.ensures.value) c.in_ok-ends.ensures.ends,
      c.text_of.ensures d
          (alone d _ _ c.in_ok-writer.ensures.tokens c.in_ok-write_locks.ensures.adds.0),
    )
