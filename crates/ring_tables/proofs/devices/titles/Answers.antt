use Rattle.std.proofs.Common.{rules}
use Rattle.ring_tables.proofs.devices.titles.Goals as goal

pub returns : goal.returns
returns c = search rules
