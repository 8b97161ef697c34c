use Rattle.ring_founding.proofs.Founded.{valid_founded}
use Rattle.ring_founding.proofs.laws.founded_ring_is_valid.Goals as goal

pub returns : goal.returns
returns c = valid_founded
