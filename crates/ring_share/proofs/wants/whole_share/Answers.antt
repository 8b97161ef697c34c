use Rattle.std.proofs.Common.{rules}
use Rattle.ring_share.proofs.wants.whole_share.Goals as goal

pub returns-clause-value : goal.returns-clause-value
returns-clause-value c = search rules
