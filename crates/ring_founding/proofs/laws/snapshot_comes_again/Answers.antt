use Rattle.ring_founding.proofs.Founded.{same_snapshot}
use Rattle.ring_founding.proofs.laws.snapshot_comes_again.Goals as goal

pub returns : goal.returns
returns c = same_snapshot
