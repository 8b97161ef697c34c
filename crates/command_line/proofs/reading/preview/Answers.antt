use Rattle.clap.specs.Matches.{found_of}
use Rattle.clap.specs.Walk.{rows_of}
use Rattle.command_line.proofs.Tasks.{no_preview}
use Rattle.command_line.proofs.reading.preview.Goals as goal

pub returns-in_err-preview_of : goal.returns-in_err-preview_of
returns-in_err-preview_of c = rw c.from_residual-in_err-preview_of.ensures
    (no_preview (rows_of (found_of c.args.matches.now)) c.in_err-preview_of.ensures)
