use Rattle.builder_store.proofs.Bounding.{found_new}
use Rattle.builder_store.proofs.calls.look_up.Goals as goal

pub returns-then-is_beyond-clause-found : goal.returns-then-is_beyond-clause-found
returns-then-is_beyond-clause-found g c = λ clean content stands. found_new content.book
    c.args.key.now c.args.command.now (c.requires.known clean content stands c.args.key.now
    (c.is_beyond.ensures.0 c.if-is_beyond.true))
