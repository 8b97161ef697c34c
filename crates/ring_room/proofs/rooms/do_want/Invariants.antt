use Rattle.std.proofs.Common.{ℕ, ◌<◌, get_or}
use Rattle.ring_room.proofs.rooms.do_want.Given as goal

-- each so far wants a seat
abbrev pub invariant-loop-want : goal.invariant-loop-want
invariant-loop-want l = (place : ℕ) → place < l.want-index → 0 < get_or l.wanted place 0
