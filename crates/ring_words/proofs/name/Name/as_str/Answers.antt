use Rattle.std.proofs.Common.{rules}
use Rattle.ring_words.proofs.name.Name.as_str.Goals as goal

pub returns-clause-text : goal.returns-clause-text
returns-clause-text c = search rules

pub returns-clause-valid : goal.returns-clause-valid
returns-clause-valid c = search rules
