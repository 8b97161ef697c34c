use Rattle.ring_messages.proofs.Putting.{alone}
use Rattle.ring_log.specs.Log.{entry_data}
use Rattle.ring_log.proofs.text.entry_json.Goals as goal

pub returns : goal.returns
returns c =
    let d = entry_data c.args.place c.args.entry.now in
    c.text_of.ensures d
    (alone d _ _ c.in_ok-writer.ensures.tokens c.in_ok-write_entry.ensures.adds.0)
