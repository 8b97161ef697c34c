use Rattle.std.proofs.Common.{rules}
use Rattle.programs.proofs.showing.ask_nodes.Goals as goal

pub returns-in_err-path-clause-fault : goal.returns-in_err-path-clause-fault
returns-in_err-path-clause-fault c = search rules
