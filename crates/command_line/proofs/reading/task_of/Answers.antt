use Rattle.clap.specs.Matches.{found_of}
use Rattle.clap.specs.Walk.{rows_of}
use Rattle.command_line.proofs.Tasks.{asked, bad_by, bad_if, not_asked, refused}
use Rattle.command_line.proofs.reading.task_of.Goals as goal

pub returns-in-Err-clause-nothing : goal.returns-in-Err-clause-nothing
returns-in-Err-clause-nothing c = bad_by _ _ _
    (refused _ _ c.in-Err.error c.in_ok-command.ensures c.in-Err.ensures.kinds) c.fault_of.ensures

pub returns-in-Some-2-clause-task : goal.returns-in-Some-2-clause-task
returns-in-Some-2-clause-task c = asked _ _ c.in-Ok.matches c.in-Some.name.now
    (rows_of (found_of c.in-Some.given.now)) c.in-Some-2.task c.in_ok-command.ensures
    c.in-Ok.ensures.kinds c.in-Ok.ensures.matches c.in-Some.ensures.name c.in-Some.ensures.rows
    (rw c.in-Some-2.is at c.in_ok-task.ensures)

pub returns-clause-nothing : goal.returns-clause-nothing
returns-clause-nothing c = bad_if _ _
    (not_asked _ _ c.in-Ok.matches c.in-Some.name.now (rows_of (found_of c.in-Some.given.now))
    c.in_ok-command.ensures c.in-Ok.ensures.matches c.in-Some.ensures.name c.in-Some.ensures.rows
    (rw c.in-None.is at c.in_ok-task.ensures))
