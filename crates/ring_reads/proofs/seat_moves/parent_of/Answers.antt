use Rattle.std.proofs.Common.{rules}
use Rattle.ring_reads.proofs.seat_moves.parent_of.Goals as goal

pub returns : goal.returns
returns c = search rules
