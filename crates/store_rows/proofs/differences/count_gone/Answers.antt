use Rattle.std.proofs.Common.{arith}
use Rattle.std.proofs.lemmas.Grind.{common_steps}
use Rattle.store_rows.proofs.Unchanged.{none_gone_of, same_devices}
use Rattle.store_rows.proofs.differences.count_gone.Goals as goal

pub returns-then-eq-clause-value : goal.returns-then-eq-clause-value
returns-then-eq-clause-value c =
    none_gone_of c.args.others.now c.args.devices.now (same_devices c.args.others.now
    c.args.devices.now c.eq.result c.eq.ensures c.if-eq.true)

pub returns-clause-value : goal.returns-clause-value
returns-clause-value c = grind (arith, common_steps)
