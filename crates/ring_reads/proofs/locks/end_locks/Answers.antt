use Rattle.std.proofs.Common.{ap}
use Rattle.ring_reads.specs.Inner.Behind.{behind_rests}
use Rattle.ring_reads.proofs.Listing.{same_end}
use Rattle.ring_reads.proofs.locks.end_locks.Goals as goal

pub returns : goal.returns
returns c = same_end c.end_list.ensures (ap behind_rests c.as_str.ensures.text)
