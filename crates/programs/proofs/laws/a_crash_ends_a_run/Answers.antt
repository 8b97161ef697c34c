use Rattle.programs.proofs.Lives.{crash_run}
use Rattle.programs.proofs.laws.a_crash_ends_a_run.Goals as goal

pub returns-clause-between : goal.returns-clause-between
returns-clause-between g c = λ book sound unfailed. g.met.K.Keeper.settled book.keeper sound unfailed

pub returns-clause-after : goal.returns-clause-after
returns-clause-after g c = λ book later call made sound unfailed. made.left sound unfailed

pub returns-clause-ends : goal.returns-clause-ends
returns-clause-ends g c = crash_run g.K.Keeper c.run_goes_on.ensures
