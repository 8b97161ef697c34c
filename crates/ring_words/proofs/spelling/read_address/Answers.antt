use Rattle.std.proofs.Common.{rules}
use Rattle.ring_words.proofs.spelling.read_address.Goals as goal

pub returns-clause-memory : goal.returns-clause-memory
returns-clause-memory c = search rules

pub returns-clause-read : goal.returns-clause-read
returns-clause-read c = search rules
