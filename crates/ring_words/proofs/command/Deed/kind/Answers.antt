use Rattle.ring_words.proofs.command.Deed.kind.Goals as goal

pub returns-in-Publish : goal.returns-in-Publish
returns-in-Publish c = rw c.in-Publish.is
