use Rattle.std.proofs.lemmas.Grind.{elements}
use Rattle.std.proofs.Common.{arith}
use Rattle.std.proofs.lemmas.Grind.{common_steps}
use Rattle.ring_place.proofs.surplus.gift_of.Goals as goal

pub returns-in_default-clause-none : goal.returns-in_default-clause-none
returns-in_default-clause-none c = grind (arith, common_steps)

pub returns-in_err-to-clause-none : goal.returns-in_err-to-clause-none
returns-in_err-to-clause-none c = grind (arith, common_steps)

pub way_of-requires-clause-at : goal.way_of-requires-clause-at
way_of-requires-clause-at c = grind (arith, elements)

pub above-requires : goal.above-requires
above-requires c = grind (arith, elements)

pub returns-clause-some : goal.returns-clause-some
returns-clause-some c = grind (arith, elements)
