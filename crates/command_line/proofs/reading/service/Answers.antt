use Rattle.clap.specs.Matches.{found_of}
use Rattle.clap.specs.Walk.{rows_of}
use Rattle.command_line.proofs.Tasks.{no_service_on}
use Rattle.command_line.proofs.reading.service.Goals as goal

pub returns-in_default : goal.returns-in_default
returns-in_default c = no_service_on (rows_of (found_of c.args.matches.now)) c.in_default.ensures
