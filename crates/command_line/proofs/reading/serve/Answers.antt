use Rattle.clap.specs.Matches.{found_of}
use Rattle.clap.specs.Walk.{rows_of}
use Rattle.command_line.proofs.Tasks.{no_service}
use Rattle.command_line.proofs.reading.serve.Goals as goal

pub returns-in_err-port_of : goal.returns-in_err-port_of
returns-in_err-port_of c = rw c.from_residual-in_err-port_of.ensures
    (no_service (rows_of (found_of c.args.matches.now))
    (λ port count is_port is_count. c.in_err-port_of.ensures port is_port))

pub returns-in_err-count_of : goal.returns-in_err-count_of
returns-in_err-count_of c = rw c.from_residual-in_err-count_of.ensures
    (no_service (rows_of (found_of c.args.matches.now))
    (λ port count is_port is_count. c.in_err-count_of.ensures count is_count))
