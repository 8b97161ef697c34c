use Rattle.std.proofs.Common.{arith}
use Rattle.std.proofs.lemmas.Grind.{common_steps}
use Rattle.std.proofs.Common.{◌∙◌}
use Rattle.request_book.proofs.mem_keeper.MemKeeperStateCommandReplyKeeper.entries.Goals as goal

pub returns-clause-entries : goal.returns-clause-entries
returns-clause-entries g c =
    rw (← c.self.view_is) (λ _. c.in_ok-copy_entries.ensures ∙ c.page-page.ensures)

pub returns-in_err-copy_entries-clause-left : goal.returns-in_err-copy_entries-clause-left
returns-in_err-copy_entries-clause-left g c = grind (arith, common_steps)

pub returns-clause-left : goal.returns-clause-left
returns-clause-left g c = grind (arith, common_steps)
