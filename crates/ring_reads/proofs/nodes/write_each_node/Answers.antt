use Rattle.std.proofs.Common.{◌<◌, ◌∙◌, [], ◌∷◌, arith, get_or, length, take}
use Rattle.ring_reads.specs.Nodes.{devices_of, node_data}
use Rattle.ring_reads.proofs.Listing.{told_more}
use Rattle.ring_reads.proofs.NodeLemmas.{devices_more}
use Rattle.ring_reads.proofs.nodes.write_each_node.Goals as goal

pub loop-id-preserved : goal.loop-id-preserved
loop-id-preserved c =
    let ring = c.args.ring.now in
    let ids = c.args.ids.now in
    let i = c.loop-id.id-index in
    let within : i < length ids = omega arith in (
      told_more node_data (devices_of ring (take i ids))
          (devices_of ring (get_or ids i 0 ∷ [])) _ c.args.writer.now.tokens _ _
          (devices_more ring ids i within) c.loop-id.invariant.0 c.in_ok-write_node_at.ensures.adds.0,
      c.write_node_at.ensures.adds.1 ∙ c.loop-id.invariant.1,
    )
