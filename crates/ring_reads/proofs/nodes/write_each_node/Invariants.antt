use Rattle.std.proofs.Common.{◌≡◌, ◌++◌, take}
use Rattle.ring_reads.specs.Inner.Lists.{told_tokens}
use Rattle.ring_reads.specs.Nodes.{devices_of, node_data}
use Rattle.ring_reads.proofs.nodes.write_each_node.Given as goal

-- what is told of the nodes so far
abbrev pub invariant-loop-id : goal.invariant-loop-id
invariant-loop-id l =
    (l.writer.tokens ≡ l.fn.writer.tokens
    ++ told_tokens node_data (devices_of l.ring (take l.id-index l.ids)))
    × (l.writer.before ≡ l.fn.writer.before)
