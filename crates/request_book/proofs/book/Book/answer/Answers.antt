use Rattle.std.proofs.Common.{arith, rules}
use Rattle.std.proofs.lemmas.Grind.{common_steps}
use Rattle.request_book.proofs.book.Book.answer.Goals as goal

pub returns-in-Other : goal.returns-in-Other
returns-in-Other g c = grind (arith, common_steps)

pub answer_new-requires-clause-unknown : goal.answer_new-requires-clause-unknown
answer_new-requires-clause-unknown g c = search rules fits 100
