use Rattle.ring_founding.proofs.Founded.{each_among, others_stay}
use Rattle.ring_founding.proofs.laws.founded_rings_are_there.Goals as goal

pub returns-clause-each : goal.returns-clause-each
returns-clause-each c = each_among

pub returns-clause-others : goal.returns-clause-others
returns-clause-others c = others_stay
