use Rattle.std.proofs.Common.{rules}
use Rattle.store_rows.proofs.callers.Callers.is_beyond.Goals as goal

pub returns-in-Some : goal.returns-in-Some
returns-in-Some c = search rules
