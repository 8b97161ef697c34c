use Rattle.std.proofs.Common.{arith}
use Rattle.std.proofs.lemmas.Grind.{common_steps, elements}
use Rattle.ring_share.proofs.better.has_crowded.Goals as goal

pub has_seat_crowded-requires-clause-places : goal.has_seat_crowded-requires-clause-places
has_seat_crowded-requires-clause-places c = grind (arith, common_steps)

pub has_seat_crowded-requires-clause-within : goal.has_seat_crowded-requires-clause-within
has_seat_crowded-requires-clause-within c = grind (arith, elements)
