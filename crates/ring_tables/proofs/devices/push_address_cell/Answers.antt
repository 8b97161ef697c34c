use Rattle.std.proofs.Common.{arith}
use Rattle.std.proofs.lemmas.Grind.{common_steps}
use Rattle.ring_tables.proofs.devices.push_address_cell.Goals as goal

pub overflow_sub-length : goal.overflow_sub-length
overflow_sub-length c = grind (arith, common_steps)

pub returns : goal.returns
returns c = grind (arith, common_steps)
