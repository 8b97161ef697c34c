use Rattle.clap.specs.Matches.{found_of}
use Rattle.clap.specs.Walk.{rows_of}
use Rattle.command_line.proofs.Tasks.{no_seed}
use Rattle.command_line.proofs.reading.preview_of.Goals as goal

pub returns-in_err-seed_of : goal.returns-in_err-seed_of
returns-in_err-seed_of c = rw c.from_residual-in_err-seed_of.ensures
    (no_seed (rows_of (found_of c.args.matches.now)) c.in_err-seed_of.ensures)
