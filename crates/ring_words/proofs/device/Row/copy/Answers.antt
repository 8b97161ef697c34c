use Rattle.ring_words.proofs.AlikeRows.{same_row}
use Rattle.ring_words.proofs.device.Row.copy.Goals as goal

pub returns : goal.returns
returns c = same_row _ _ c.in_ok-row.ensures.cases
