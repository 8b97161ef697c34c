use Rattle.std.proofs.Common.{All, take}
use Rattle.ring_model.specs.Valid.{IsHour}
use Rattle.ring_model.proofs.proper.moves_are_proper.Given as goal

abbrev pub invariant-loop-hour : goal.invariant-loop-hour
invariant-loop-hour l = All IsHour (take l.hour-index l.moves)
