use Rattle.std.proofs.Common.{arith}
use Rattle.std.proofs.lemmas.Grind.{common_steps}
use Rattle.std.proofs.Common.{rules}
use Rattle.request_book.proofs.Runs.{run_one}
use Rattle.request_book.proofs.book.Book.entries.Goals as goal

pub returns-then-is_closed-clause-run : goal.returns-then-is_closed-clause-run
returns-then-is_closed-clause-run g c = search (rules, run_one)

pub returns-in_err-entries-clause-run : goal.returns-in_err-entries-clause-run
returns-in_err-entries-clause-run g c = search (rules, run_one)

pub returns-clause-run : goal.returns-clause-run
returns-clause-run g c = search (rules, run_one)

pub returns-clause-entries : goal.returns-clause-entries
returns-clause-entries g c = rw (← c.self.view_is) c.in_ok-entries.ensures.entries

pub returns-clause-made : goal.returns-clause-made
returns-clause-made g c = grind (arith, common_steps)
