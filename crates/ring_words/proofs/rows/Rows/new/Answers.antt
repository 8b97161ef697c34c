use Rattle.std.proofs.Common.{refl}
use Rattle.ring_words.proofs.rows.Rows.new.Goals as goal

pub returns : goal.returns
returns c = refl
