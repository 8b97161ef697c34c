use Rattle.ring_place.proofs.gather.gather_row.Goals as goal

pub returns-in-First-clause-lifted : goal.returns-in-First-clause-lifted
returns-in-First-clause-lifted c = rw c.in-First.is c.gather_first.ensures.first

pub returns-in-First-clause-by_name : goal.returns-in-First-clause-by_name
returns-in-First-clause-by_name c = rw c.in-First.is c.gather_first.ensures.by_name
