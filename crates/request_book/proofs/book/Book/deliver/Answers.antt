use Rattle.std.proofs.Common.{rules}
use Rattle.request_book.proofs.Runs.{run_one}
use Rattle.request_book.proofs.book.Book.deliver.Goals as goal

pub returns-clause-run : goal.returns-clause-run
returns-clause-run g c = search (rules, run_one)
