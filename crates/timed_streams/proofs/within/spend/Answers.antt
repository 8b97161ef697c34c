use Rattle.std.proofs.Common.{arith}
use Rattle.timed_streams.proofs.within.spend.Goals as goal

pub returns : goal.returns
returns g c = omega arith
