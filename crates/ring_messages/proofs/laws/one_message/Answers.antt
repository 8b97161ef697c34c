use Rattle.ring_messages.proofs.Messages.{one_message}
use Rattle.ring_messages.proofs.laws.one_message.Goals as goal

pub returns : goal.returns
returns c = one_message
