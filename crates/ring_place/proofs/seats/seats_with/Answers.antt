use Rattle.std.proofs.lemmas.Grind.{elements}
use Rattle.std.proofs.Common.{arith}
use Rattle.std.proofs.lemmas.Grind.{common_steps}
use Rattle.ring_place.proofs.seats.seats_with.Goals as goal

pub loop-place-init : goal.loop-place-init
loop-place-init c = grind (arith, common_steps)

pub loop-place-preserved : goal.loop-place-preserved
loop-place-preserved c = grind (arith, elements)

pub returns-clause-seats : goal.returns-clause-seats
returns-clause-seats c = grind (arith, elements)
