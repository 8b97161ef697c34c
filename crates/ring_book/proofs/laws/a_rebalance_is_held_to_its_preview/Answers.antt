use Rattle.ring_book.proofs.Foretelling.{bound}
use Rattle.ring_book.proofs.laws.a_rebalance_is_held_to_its_preview.Goals as goal

pub returns : goal.returns
returns c = bound
