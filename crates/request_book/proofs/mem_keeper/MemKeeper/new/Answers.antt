use Rattle.std.proofs.Common.{refl}
use Rattle.request_book.proofs.mem_keeper.MemKeeper.new.Goals as goal

pub returns : goal.returns
returns g c = rw c.new.ensures refl
