use Rattle.std.proofs.Common.{append_assoc, rules}
use Rattle.programs.proofs.service.place_text.Goals as goal

pub returns : goal.returns
returns c = rw (← c.get-port.ensures.value) (search (rules, append_assoc))
