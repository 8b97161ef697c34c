use Rattle.std.proofs.Common.{◌∙◌}
use Rattle.ring_reads.proofs.Moving.{differs_is}
use Rattle.ring_reads.proofs.moves.differ.Goals as goal

pub returns : goal.returns
returns c = c.ne.ensures ∙ differs_is c.args.from c.args.to
