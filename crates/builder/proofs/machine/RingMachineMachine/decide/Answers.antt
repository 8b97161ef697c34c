use Rattle.std.proofs.Common.{rules}
use Rattle.builder.proofs.machine.RingMachineMachine.decide.Goals as goal

pub returns : goal.returns
returns c = search rules
