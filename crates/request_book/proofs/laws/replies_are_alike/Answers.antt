use Rattle.request_book.proofs.Alike.{alike, repeats}
use Rattle.request_book.proofs.laws.replies_are_alike.Goals as goal

pub returns-clause-repeats : goal.returns-clause-repeats
returns-clause-repeats g c = λ machine limit closed old new calls run. repeats
    (g.M.Machine.step machine) limit closed old calls new run

pub returns-clause-alike : goal.returns-clause-alike
returns-clause-alike g c = λ machine limit closed old new calls run. alike
    (g.M.Machine.step machine) limit closed old calls new run
