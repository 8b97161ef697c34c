use Rattle.std.proofs.Common.{refl}
use Rattle.ring_room.proofs.tiers.is_less.Goals as goal

pub returns : goal.returns
returns c = refl
