use Rattle.std.proofs.Common.{inl}
use Rattle.programs.proofs.Telling.{at_most_three, done_at, failed_at, never_two}
use Rattle.programs.proofs.performing.perform.Goals as goal

pub returns-in-Ok-clause-status : goal.returns-in-Ok-clause-status
returns-in-Ok-clause-status g c = at_most_three c.finish.result _ _ c.finish.ensures

pub returns-in-Ok-clause-done : goal.returns-in-Ok-clause-done
returns-in-Ok-clause-done g c = λ zero.
    (c.in-Ok.task, c.in-Ok.ensures.task, done_at c.finish.result _ _ c.finish.ensures zero)

pub returns-in-Ok-clause-fault : goal.returns-in-Ok-clause-fault
returns-in-Ok-clause-fault g c = λ failed. inl
    (c.in-Ok.task, c.in-Ok.ensures.task, failed_at c.finish.result _ _ c.finish.ensures failed)

pub returns-in-Ok-clause-nothing : goal.returns-in-Ok-clause-nothing
returns-in-Ok-clause-nothing g c = λ two. absurd (never_two c.finish.result _ _ c.finish.ensures two)
