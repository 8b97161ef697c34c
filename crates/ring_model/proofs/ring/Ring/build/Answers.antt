use Rattle.std.proofs.Common.{rules}
use Rattle.ring_model.proofs.ring.Ring.build.Goals as goal

pub invariant_of-result : goal.invariant_of-result
invariant_of-result c = search rules

pub returns-else-are_valid-clause-invalid : goal.returns-else-are_valid-clause-invalid
returns-else-are_valid-clause-invalid c = search rules

pub returns-else-are_valid-clause-memory : goal.returns-else-are_valid-clause-memory
returns-else-are_valid-clause-memory c = search rules

pub returns-else-are_valid-clause-valid : goal.returns-else-are_valid-clause-valid
returns-else-are_valid-clause-valid c = search rules
