use Rattle.std.proofs.Common.{rules}
use Rattle.ring_words.proofs.rows.Rows.as_slice.Goals as goal

pub returns : goal.returns
returns c = search rules
