use Rattle.std.proofs.Common.{rules}
use Rattle.request_book.proofs.Runs.{run_one}
use Rattle.request_book.proofs.book.Book.load.Goals as goal

pub returns-clause-loaded : goal.returns-clause-loaded
returns-clause-loaded g c = search rules

pub returns-clause-made : goal.returns-clause-made
returns-clause-made g c = search rules

pub returns-then-is_closed-clause-run : goal.returns-then-is_closed-clause-run
returns-then-is_closed-clause-run g c = search (rules, run_one)

pub returns-in_err-load-clause-run : goal.returns-in_err-load-clause-run
returns-in_err-load-clause-run g c = search (rules, run_one)

pub returns-clause-run : goal.returns-clause-run
returns-clause-run g c = search (rules, run_one)

pub returns-clause-hour : goal.returns-clause-hour
returns-clause-hour g c = rw (← c.self.view_is) (λ s. c.in_ok-hour.ensures.hour (c.in_ok-load.ensures.sound s))
