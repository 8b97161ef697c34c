use Rattle.std.proofs.Common.{refl}
use Rattle.ring_book.proofs.telling.told_fault.Goals as goal

pub returns-in-Closed : goal.returns-in-Closed
returns-in-Closed c = rw c.in-Closed.is refl
