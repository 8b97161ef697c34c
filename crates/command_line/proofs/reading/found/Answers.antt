use Rattle.clap.specs.Matches.{found_of}
use Rattle.clap.specs.Walk.{rows_of}
use Rattle.command_line.proofs.Tasks.{no_found}
use Rattle.command_line.proofs.reading.found.Goals as goal

pub returns-in_default-hours_of : goal.returns-in_default-hours_of
returns-in_default-hours_of c = no_found (rows_of (found_of c.args.matches.now))
    c.in_default-hours_of.ensures
