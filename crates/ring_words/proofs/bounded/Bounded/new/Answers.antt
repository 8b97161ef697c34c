use Rattle.std.proofs.Common.{arith}
use Rattle.ring_words.proofs.bounded.Bounded.new.Goals as goal

pub invariant_of-result : goal.invariant_of-result
invariant_of-result c = omega arith
