use Rattle.std.proofs.Common.{rules}
use Rattle.ring_share.proofs.rooms.count_of.Goals as goal

pub returns : goal.returns
returns c = search rules
