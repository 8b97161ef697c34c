use Rattle.clap.specs.Matches.{found_of}
use Rattle.clap.specs.Walk.{rows_of}
use Rattle.command_line.proofs.Tasks.{shows_no_word}
use Rattle.command_line.proofs.reading.ring_of.Goals as goal

pub returns-in-None : goal.returns-in-None
returns-in-None c = shows_no_word (rows_of (found_of c.args.matches.now)) c.args.ring
    c.requires.ring c.in-None.ensures
