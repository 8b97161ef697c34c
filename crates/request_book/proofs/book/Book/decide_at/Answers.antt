use Rattle.std.proofs.Common.{arith}
use Rattle.std.proofs.lemmas.Grind.{common_steps}
use Rattle.request_book.proofs.book.Book.decide_at.Goals as goal

pub returns-clause-may : goal.returns-clause-may
returns-clause-may g c = grind (arith, common_steps)

pub returns-clause-left : goal.returns-clause-left
returns-clause-left g c = grind (arith, common_steps)
