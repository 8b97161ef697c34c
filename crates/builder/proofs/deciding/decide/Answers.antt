use Rattle.std.proofs.Common.{rules}
use Rattle.builder.proofs.deciding.decide.Goals as goal

pub returns-in_ok-with-in-Done : goal.returns-in_ok-with-in-Done
returns-in_ok-with-in-Done c = search rules
