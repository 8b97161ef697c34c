use Rattle.ring_place.proofs.Seeded.{one_seeded}
use Rattle.ring_place.proofs.laws.a_seed_decides.Goals as goal

pub returns : goal.returns
returns c = one_seeded
