use Rattle.std.proofs.Common.{rules}
use Rattle.csv_import.proofs.row.is_named.Goals as goal

pub returns : goal.returns
returns c = search rules
