use Rattle.std.proofs.Common.{rules}
use Rattle.builder.proofs.deciding.add.Goals as goal

pub returns : goal.returns
returns c = search rules
