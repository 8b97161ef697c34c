use Rattle.ring_messages.proofs.Putting.{alone}
use Rattle.ring_reads.specs.Nodes.{nodes_data}
use Rattle.ring_reads.proofs.nodes.nodes_text.Goals as goal

pub returns : goal.returns
returns c =
    let d = nodes_data c.args.ring.now c.args.partition c.args.ids.now in
    c.text_of.ensures d
    (alone d _ _ c.in_ok-writer.ensures.tokens c.in_ok-write_nodes.ensures.adds.0)
