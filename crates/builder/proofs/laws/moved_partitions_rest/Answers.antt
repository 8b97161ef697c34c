use Rattle.builder.proofs.Rests.{rests_for}
use Rattle.builder.proofs.laws.moved_partitions_rest.Goals as goal

pub returns : goal.returns
returns c = rests_for
