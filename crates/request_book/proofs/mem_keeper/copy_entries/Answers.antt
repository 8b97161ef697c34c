use Rattle.std.proofs.Common.{arith}
use Rattle.std.proofs.lemmas.Grind.{common_steps}
use Rattle.request_book.proofs.mem_keeper.copy_entries.Goals as goal

pub copies-preserved : goal.copies-preserved
copies-preserved g c = grind (arith, common_steps)

pub returns : goal.returns
returns g c = grind (arith, common_steps)
