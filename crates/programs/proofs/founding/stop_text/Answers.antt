use Rattle.std.proofs.Common.{append_assoc, rules}
use Rattle.programs.proofs.founding.stop_text.Goals as goal

pub returns : goal.returns
returns c = search (rules, append_assoc)
