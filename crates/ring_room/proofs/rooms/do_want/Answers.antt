use Rattle.std.proofs.Common.{below_more, arith}
use Rattle.ring_room.proofs.rooms.do_want.Goals as goal

pub loop-want-preserved : goal.loop-want-preserved
loop-want-preserved c = below_more _ _ c.loop-want.invariant (omega (arith, c.if-want-eq0.false))
