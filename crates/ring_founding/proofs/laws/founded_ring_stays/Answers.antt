use Rattle.ring_founding.proofs.Founded.{moved_then}
use Rattle.ring_founding.proofs.laws.founded_ring_stays.Goals as goal

pub returns : goal.returns
returns c = moved_then
