use Rattle.request_book.proofs.Log.{log_is_run}
use Rattle.request_book.proofs.laws.the_log_is_the_run.Goals as goal

pub returns : goal.returns
returns g c = λ machine limit closed old new calls place most run none. log_is_run
    (g.M.Machine.step machine) limit old closed calls new place most run none
