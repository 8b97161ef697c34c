use Rattle.programs.proofs.performing.run.Goals as goal

pub returns-in-Some-clause-opened : goal.returns-in-Some-clause-opened
returns-in-Some-clause-opened g c = rw c.in-Some.is c.run_over_store.ensures.opened

pub returns-in-Some-clause-done : goal.returns-in-Some-clause-done
returns-in-Some-clause-done g c = rw c.in-Some.is c.run_over_store.ensures.answered

pub returns-in-Some-clause-failed : goal.returns-in-Some-clause-failed
returns-in-Some-clause-failed g c = rw c.in-Some.is c.run_over_store.ensures.failed
