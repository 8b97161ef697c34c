use Rattle.std.proofs.Common.{arith, rules}
use Rattle.std.proofs.lemmas.Grind.{common_steps}
use Rattle.request_book.proofs.book.Book.answer_new.Goals as goal

pub returns : goal.returns
returns g c = grind (arith, common_steps)

pub returns-in_err-reply : goal.returns-in_err-reply
returns-in_err-reply g c = grind (arith, common_steps)

pub decide_at-requires-clause-room : goal.decide_at-requires-clause-room
decide_at-requires-clause-room g c = search rules fits 100

pub decide_at-requires-clause-latest : goal.decide_at-requires-clause-latest
decide_at-requires-clause-latest g c = search rules fits 100
