use Rattle.command_line.proofs.reading.place_of.Goals as goal

pub returns-in_err-port_of : goal.returns-in_err-port_of
returns-in_err-port_of c = rw c.from_residual-in_err-port_of.ensures
    (λ file port file_is port_is. c.in_err-port_of.ensures port port_is)
