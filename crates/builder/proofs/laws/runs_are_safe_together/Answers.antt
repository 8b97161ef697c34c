use Rattle.builder.proofs.Joined.{safe_runs}
use Rattle.builder.proofs.laws.runs_are_safe_together.Goals as goal

pub returns : goal.returns
returns c = safe_runs
