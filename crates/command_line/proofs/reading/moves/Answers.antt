use Rattle.clap.specs.Matches.{found_of}
use Rattle.clap.specs.Walk.{rows_of}
use Rattle.command_line.proofs.Tasks.{no_moves}
use Rattle.command_line.proofs.reading.moves.Goals as goal

pub returns-in_err-moves_of : goal.returns-in_err-moves_of
returns-in_err-moves_of c = rw c.from_residual-in_err-moves_of.ensures
    (no_moves (rows_of (found_of c.args.matches.now)) c.in_err-moves_of.ensures)
