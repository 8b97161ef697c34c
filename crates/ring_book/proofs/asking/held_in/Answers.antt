use Rattle.std.proofs.Common.{refl}
use Rattle.ring_book.proofs.Holdings.{held_alike}
use Rattle.ring_book.proofs.asking.held_in.Goals as goal

pub returns : goal.returns
returns g c = λ sound hour. held_alike _ _ (c.state.ensures sound) hour refl (c.count.ensures sound)
    c.most.ensures
