use Rattle.clap.specs.Matches.{found_of}
use Rattle.clap.specs.Walk.{rows_of}
use Rattle.command_line.proofs.Tasks.{no_show}
use Rattle.command_line.proofs.reading.show.Goals as goal

pub returns-in_err-shown_of : goal.returns-in_err-shown_of
returns-in_err-shown_of c = rw c.from_residual-in_err-shown_of.ensures
    (no_show (rows_of (found_of c.args.matches.now)) c.in_err-shown_of.ensures)
