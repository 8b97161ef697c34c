use Rattle.ring_words.proofs.command.Act.copy.Goals as goal

pub returns-in_ok-copy-in-Import : goal.returns-in_ok-copy-in-Import
returns-in_ok-copy-in-Import c = rw (c.in-Import.is, c.in_ok-copy-in-Import.ensures)
