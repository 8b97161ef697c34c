use Rattle.std.proofs.Common.{rules}
use Rattle.ring_reads.proofs.held.Held.hour_now.Goals as goal

pub returns : goal.returns
returns c = search rules
