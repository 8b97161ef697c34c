use Rattle.store_rows.proofs.Unchanged.{same_moves}
use Rattle.store_rows.proofs.differences.are_same_moves.Goals as goal

pub returns : goal.returns
returns c = same_moves c.args.one.now c.args.other.now c.eq.result c.eq.ensures
