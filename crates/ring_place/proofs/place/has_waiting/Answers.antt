use Rattle.std.proofs.Common.{arith}
use Rattle.std.proofs.lemmas.Grind.{elements}
use Rattle.ring_place.proofs.place.has_waiting.Goals as goal

pub returns : goal.returns
returns c = grind (arith, elements)
