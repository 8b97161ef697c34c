use Rattle.std.proofs.Common.{arith}
use Rattle.std.proofs.lemmas.Grind.{elements}
use Rattle.ring_place.proofs.surplus.lift_best.Goals as goal

pub offset_bounds-row-gift : goal.offset_bounds-row-gift
offset_bounds-row-gift c = grind (arith, elements)

pub bounds-row-gift : goal.bounds-row-gift
bounds-row-gift c = grind (arith, elements)

pub returns-clause-device : goal.returns-clause-device
returns-clause-device c = grind (arith, elements)
