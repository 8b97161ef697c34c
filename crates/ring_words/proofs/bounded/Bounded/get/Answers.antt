use Rattle.std.proofs.Common.{arith}
use Rattle.ring_words.proofs.bounded.Bounded.get.Goals as goal

pub returns-clause-value : goal.returns-clause-value
returns-clause-value c = omega arith

pub returns-clause-within : goal.returns-clause-within
returns-clause-within g c = (omega arith, omega arith)
