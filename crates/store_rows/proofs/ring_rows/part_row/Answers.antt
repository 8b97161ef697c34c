use Rattle.std.proofs.Common.{rules}
use Rattle.store_rows.proofs.ring_rows.part_row.Goals as goal

pub returns : goal.returns
returns c = search rules
