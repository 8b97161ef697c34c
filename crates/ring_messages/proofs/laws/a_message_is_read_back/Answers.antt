use Rattle.ring_messages.proofs.Keyed.{is_message}
use Rattle.ring_messages.proofs.laws.a_message_is_read_back.Goals as goal

pub returns : goal.returns
returns c = is_message
