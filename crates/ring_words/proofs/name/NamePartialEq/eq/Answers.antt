use Rattle.std.proofs.Common.{rules}
use Rattle.ring_words.proofs.name.NamePartialEq.eq.Goals as goal

pub returns : goal.returns
returns c = search rules
