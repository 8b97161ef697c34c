use Rattle.builder.proofs.Versions.{one_ring_of}
use Rattle.builder.proofs.laws.a_version_is_one_ring.Goals as goal

pub returns : goal.returns
returns c = one_ring_of
