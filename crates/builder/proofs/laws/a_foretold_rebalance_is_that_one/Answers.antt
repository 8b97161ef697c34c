use Rattle.builder.proofs.Foretold.{does_as_told, is_as_told}
use Rattle.builder.proofs.laws.a_foretold_rebalance_is_that_one.Goals as goal

pub returns-clause-only : goal.returns-clause-only
returns-clause-only c = is_as_told

pub returns-clause-does : goal.returns-clause-does
returns-clause-does c = does_as_told
