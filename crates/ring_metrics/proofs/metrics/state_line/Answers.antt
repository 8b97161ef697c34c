use Rattle.std.proofs.Common.{append_assoc, rules}
use Rattle.ring_metrics.proofs.metrics.state_line.Goals as goal

pub returns : goal.returns
returns c = search (rules, append_assoc)
