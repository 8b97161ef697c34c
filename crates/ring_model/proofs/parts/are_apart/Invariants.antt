use Rattle.std.proofs.Common.{take}
use Rattle.ring_model.specs.Valid.{AreApart}
use Rattle.ring_model.proofs.parts.are_apart.Given as goal

abbrev pub invariant-loop-place : goal.invariant-loop-place
invariant-loop-place l = AreApart (take l.place l.devices)
