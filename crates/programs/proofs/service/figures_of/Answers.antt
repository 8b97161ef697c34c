use Rattle.std.proofs.Common.{arith}
use Rattle.std.proofs.lemmas.Grind.{common_steps}
use Rattle.programs.proofs.service.figures_of.Goals as goal

pub returns-clause-figures : goal.returns-clause-figures
returns-clause-figures g c = grind (arith, common_steps)
