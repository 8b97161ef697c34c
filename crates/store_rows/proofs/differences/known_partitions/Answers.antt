use Rattle.std.proofs.Common.{rules}
use Rattle.store_rows.proofs.differences.known_partitions.Goals as goal

pub returns-in-Some : goal.returns-in-Some
returns-in-Some c = search rules
