use Rattle.builder_store.proofs.StepChanges.{step_changes}
use Rattle.builder_store.proofs.laws.steps_change_one_ring.Goals as goal

pub returns : goal.returns
returns c = step_changes
