use Rattle.std.proofs.Common.{rules}
use Rattle.builder.proofs.machine.RingMachineMachine.same.Goals as goal

pub returns : goal.returns
returns c = search rules
