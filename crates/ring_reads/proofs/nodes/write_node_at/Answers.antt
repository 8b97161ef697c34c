use Rattle.std.proofs.Common.{◌∙◌, ap, sym}
use Rattle.std.specs.Option.{option_copied}
use Rattle.ring_reads.specs.Nodes.{node_data}
use Rattle.ring_reads.proofs.Listing.{same_told, tells_none, tells_one}
use Rattle.ring_reads.proofs.NodeLemmas.{none_found, one_found}
use Rattle.ring_reads.proofs.nodes.write_node_at.Goals as goal

pub returns-in-Some : goal.returns-in-Some
returns-in-Some c =
    let found = sym c.device_at.ensures ∙ ap option_copied c.in-Some.is in
    same_told (tells_one node_data c.in-Some.device.now c.write_node.ensures)
    (one_found c.args.ring.now c.args.id c.in-Some.device.now found)

pub returns-in-None : goal.returns-in-None
returns-in-None c =
    let found = sym c.device_at.ensures ∙ ap option_copied c.in-None.is in
    same_told (tells_none _ c.args.writer.now node_data) (none_found c.args.ring.now c.args.id found)
