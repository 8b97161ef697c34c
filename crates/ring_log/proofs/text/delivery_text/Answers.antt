use Rattle.std.proofs.Common.{rules}
use Rattle.ring_log.proofs.text.delivery_text.Goals as goal

pub returns : goal.returns
returns c = search rules
