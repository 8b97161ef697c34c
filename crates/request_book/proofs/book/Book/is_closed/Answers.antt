use Rattle.std.proofs.lemmas.Bool.Decides.{Decides-ltb}
use Rattle.request_book.proofs.book.Book.is_closed.Goals as goal

pub returns : goal.returns
returns g c = rw (← c.self.view_is, ← c.faults.ensures) (Decides-ltb 0 c.faults.result)
