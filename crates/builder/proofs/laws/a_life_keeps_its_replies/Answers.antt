use Rattle.builder.proofs.KeptReplies.{life_keeps}
use Rattle.builder.proofs.OneLife.{life_alike, life_repeats}
use Rattle.builder.proofs.laws.a_life_keeps_its_replies.Goals as goal

pub returns-clause-kept : goal.returns-clause-kept
returns-clause-kept c = life_keeps

pub returns-clause-alike : goal.returns-clause-alike
returns-clause-alike c = life_alike

pub returns-clause-repeats : goal.returns-clause-repeats
returns-clause-repeats c = life_repeats
