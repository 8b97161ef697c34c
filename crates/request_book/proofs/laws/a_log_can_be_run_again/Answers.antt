use Rattle.request_book.proofs.Log.{run_again}
use Rattle.request_book.proofs.laws.a_log_can_be_run_again.Goals as goal

pub returns : goal.returns
returns g c = λ machine limit closed old new calls run none empty room. run_again
    (g.M.Machine.step machine) limit old closed calls new run none empty room
