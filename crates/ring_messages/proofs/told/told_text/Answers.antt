use Rattle.ring_messages.specs.Replies.{told_data}
use Rattle.ring_messages.proofs.Putting.{alone}
use Rattle.ring_messages.proofs.told.told_text.Goals as goal

pub returns : goal.returns
returns c =
    let d = told_data c.args.told.now in
    c.text_of.ensures d
    (alone d _ _ c.in_ok-writer.ensures.tokens c.in_ok-write_told.ensures.adds.0)
