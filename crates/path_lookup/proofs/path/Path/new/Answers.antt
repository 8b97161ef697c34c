use Rattle.std.proofs.Common.{rules}
use Rattle.path_lookup.proofs.path.Path.new.Goals as goal

pub invariant_of-result : goal.invariant_of-result
invariant_of-result c = search rules

pub returns-clause-bad : goal.returns-clause-bad
returns-clause-bad c = search rules

pub returns-clause-good : goal.returns-clause-good
returns-clause-good c = search rules

pub returns-in_err-copied-2-clause-bad : goal.returns-in_err-copied-2-clause-bad
returns-in_err-copied-2-clause-bad c = search rules

pub returns-in_err-copied-clause-bad : goal.returns-in_err-copied-clause-bad
returns-in_err-copied-clause-bad c = search rules

pub returns-in_err-to_vec-clause-bad : goal.returns-in_err-to_vec-clause-bad
returns-in_err-to_vec-clause-bad c = search rules
