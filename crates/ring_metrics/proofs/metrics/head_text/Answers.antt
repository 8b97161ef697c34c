use Rattle.std.proofs.Common.{append_assoc, rules}
use Rattle.ring_metrics.proofs.metrics.head_text.Goals as goal

pub returns : goal.returns
returns c = search (rules, append_assoc)
