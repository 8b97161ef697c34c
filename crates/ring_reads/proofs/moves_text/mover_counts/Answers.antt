use Rattle.ring_reads.proofs.moves_text.mover_counts.Goals as goal

pub returns : goal.returns
returns c = record { given = c.in_ok-given.ensures; taken = c.in_ok-taken.ensures }
