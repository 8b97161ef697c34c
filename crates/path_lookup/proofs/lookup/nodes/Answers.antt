use Rattle.std.proofs.Common.{arith}
use Rattle.std.proofs.lemmas.Grind.{elements}
use Rattle.std.proofs.Common.{rules}
use Rattle.path_lookup.proofs.lookup.nodes.Goals as goal

pub returns-then-not-is_assigned-clause-unassigned : goal.returns-then-not-is_assigned-clause-unassigned
returns-then-not-is_assigned-clause-unassigned c = search rules

pub returns-clause-nodes : goal.returns-clause-nodes
returns-clause-nodes c = grind (arith, elements)
