use Rattle.ring_messages.proofs.Putting.{alone}
use Rattle.ring_reads.specs.Holding.{holding_of}
use Rattle.ring_reads.specs.StoreJson.{status_data}
use Rattle.ring_reads.proofs.whole_store.status_json.Goals as goal

pub returns : goal.returns
returns c =
    let d = status_data (holding_of c.args.held.now) in
    c.text_of.ensures d
    (alone d _ _ c.in_ok-writer.ensures.tokens c.in_ok-write_status.ensures.adds.0)
