use Rattle.builder_store.proofs.StepTexts.{step_keeps_own}
use Rattle.builder_store.proofs.laws.steps_publish_own_texts.Goals as goal

pub returns : goal.returns
returns c = step_keeps_own
