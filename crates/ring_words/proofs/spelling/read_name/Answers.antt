use Rattle.ring_words.proofs.spelling.read_name.Goals as goal

pub returns-clause-bad : goal.returns-clause-bad
returns-clause-bad g c = c.new.ensures.bad
