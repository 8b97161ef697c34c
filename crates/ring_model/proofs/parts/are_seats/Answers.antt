use Rattle.std.proofs.Common.{rules}
use Rattle.ring_model.proofs.parts.are_seats.Goals as goal

pub returns-then-are_distinct : goal.returns-then-are_distinct
returns-then-are_distinct c = search rules
