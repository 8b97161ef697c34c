use Rattle.std.proofs.Common.{arith}
use Rattle.std.proofs.lemmas.Grind.{elements}
use Rattle.ring_share.proofs.wants.is_waiting.Goals as goal

pub returns-then-is_open : goal.returns-then-is_open
returns-then-is_open c = grind (arith, elements)

pub returns-else-is_open : goal.returns-else-is_open
returns-else-is_open c = grind (arith, elements)
