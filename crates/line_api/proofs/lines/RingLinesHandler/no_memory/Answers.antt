use Rattle.line_api.proofs.Constants.{no_memory_line}
use Rattle.line_api.proofs.lines.RingLinesHandler.no_memory.Goals as goal

pub returns : goal.returns
returns g c = no_memory_line
