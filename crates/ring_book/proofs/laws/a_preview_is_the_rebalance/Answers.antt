use Rattle.ring_book.proofs.Foretelling.{foretold, foretold_refusal}
use Rattle.ring_book.proofs.laws.a_preview_is_the_rebalance.Goals as goal

pub returns-clause-shown : goal.returns-clause-shown
returns-clause-shown c = foretold

pub returns-clause-refused : goal.returns-clause-refused
returns-clause-refused c = foretold_refusal
