use Rattle.std.proofs.Common.{arith}
use Rattle.ring_log.proofs.text.next_place.Goals as goal

pub returns : goal.returns
returns c = omega arith
