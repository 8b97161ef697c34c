use Rattle.std.proofs.Common.{rules}
use Rattle.store_rows.proofs.change.part_change.Goals as goal

pub returns-then-row-known : goal.returns-then-row-known
returns-then-row-known c = search rules

pub returns-else-row-known : goal.returns-else-row-known
returns-else-row-known c = search rules
