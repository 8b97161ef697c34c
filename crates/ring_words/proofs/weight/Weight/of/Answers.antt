use Rattle.std.proofs.Common.{arith}
use Rattle.ring_words.proofs.weight.Weight.of.Goals as goal

pub invariant_of-result : goal.invariant_of-result
invariant_of-result c = omega arith
