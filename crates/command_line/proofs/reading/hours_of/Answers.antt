use Rattle.std.proofs.Common.{rules}
use Rattle.command_line.proofs.reading.hours_of.Goals as goal

pub returns-in_err-min_hours_of : goal.returns-in_err-min_hours_of
returns-in_err-min_hours_of c = rw c.from_residual.ensures
    (λ min_hours hour hours_are hour_is. c.in_err-min_hours_of.ensures min_hours hours_are)

pub returns : goal.returns
returns c = search rules
