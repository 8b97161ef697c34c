use Rattle.std.proofs.Common.{arith}
use Rattle.ring_words.proofs.address.Address.bits.Goals as goal

pub returns-clause-value : goal.returns-clause-value
returns-clause-value c = omega arith
