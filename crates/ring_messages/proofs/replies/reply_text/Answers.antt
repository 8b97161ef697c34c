use Rattle.ring_messages.specs.Replies.{reply_data}
use Rattle.ring_messages.proofs.Putting.{alone}
use Rattle.ring_messages.proofs.replies.reply_text.Goals as goal

pub returns : goal.returns
returns c =
    let d = reply_data c.args.reply.now in
    c.text_of.ensures d
    (alone d _ _ c.in_ok-writer.ensures.tokens c.in_ok-write_reply.ensures.adds.0)
