use Rattle.std.proofs.Common.{arith}
use Rattle.std.proofs.lemmas.Grind.{common_steps}
use Rattle.store_rows.proofs.judging.read_meta.Goals as goal

pub returns-in_default : goal.returns-in_default
returns-in_default c = grind (arith, common_steps)

pub returns-in_default-2 : goal.returns-in_default-2
returns-in_default-2 c = grind (arith, common_steps)

pub returns-then-row-ne1 : goal.returns-then-row-ne1
returns-then-row-ne1 c = grind (arith, common_steps)

pub returns-in_err-hour : goal.returns-in_err-hour
returns-in_err-hour c = grind (arith, common_steps)

pub returns-in-1 : goal.returns-in-1
returns-in-1 c = grind (arith, common_steps)

pub returns-in-2 : goal.returns-in-2
returns-in-2 c = grind (arith, common_steps)

pub returns-in_default-schema : goal.returns-in_default-schema
returns-in_default-schema c = grind (arith, common_steps)
