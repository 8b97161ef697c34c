use Rattle.std.proofs.Common.{refl}
use Rattle.builder.proofs.machine.RingMachineMachine.is_refusal.Goals as goal

pub returns-in_default : goal.returns-in_default
returns-in_default c = rw c.in_default.is refl
