use Rattle.line_api.proofs.Constants.{unreadable_line}
use Rattle.line_api.proofs.lines.RingLinesHandler.too_long.Goals as goal

pub returns : goal.returns
returns g c = unreadable_line
