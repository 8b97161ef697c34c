use Rattle.std.proofs.Common.{rules}
use Rattle.ring_reads.proofs.reads.later.Goals as goal

pub returns : goal.returns
returns c = search rules
