use Rattle.ring_messages.proofs.Putting.{alone}
use Rattle.ring_reads.specs.StoreJson.{rings_data}
use Rattle.ring_reads.proofs.whole_store.rings_json.Goals as goal

pub returns : goal.returns
returns c =
    let d = rings_data c.args.rings.now in
    c.text_of.ensures d
    (alone d _ _ c.in_ok-writer.ensures.tokens c.in_ok-write_rings.ensures.adds.0)
