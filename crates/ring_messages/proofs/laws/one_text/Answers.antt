use Rattle.ring_messages.specs.Commands.{command_data, IsProperCommand}
use Rattle.ring_messages.specs.Inner.Says.{SaysCommand}
use Rattle.ring_messages.proofs.CommandObjects.{readable}
use Rattle.ring_messages.proofs.OneText.{one_text}
use Rattle.ring_messages.proofs.laws.one_text.Goals as goal

pub returns : goal.returns
returns c = one_text command_data IsProperCommand SaysCommand readable
