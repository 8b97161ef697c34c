use Rattle.request_book.proofs.Fronts.{goes_on, starts}
use Rattle.request_book.proofs.laws.calls_go_on.Goals as goal

pub returns-clause-none : goal.returns-clause-none
returns-clause-none g c = starts _ _ _ _ _

pub returns-clause-more : goal.returns-clause-more
returns-clause-more g c = goes_on _ _ _ _ _
