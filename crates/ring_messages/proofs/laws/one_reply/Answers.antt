use Rattle.ring_messages.specs.Replies.{reply_data, IsProperReply}
use Rattle.ring_messages.specs.Inner.Says.{SaysReply}
use Rattle.ring_messages.proofs.OneText.{one_text}
use Rattle.ring_messages.proofs.ReplyObjects.{readable}
use Rattle.ring_messages.proofs.laws.one_reply.Goals as goal

pub returns : goal.returns
returns c = one_text reply_data IsProperReply SaysReply readable
