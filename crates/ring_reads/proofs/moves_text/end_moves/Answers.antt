use Rattle.std.proofs.Common.{ap}
use Rattle.ring_reads.specs.Inner.Behind.{behind_movers}
use Rattle.ring_reads.proofs.Listing.{same_end}
use Rattle.ring_reads.proofs.moves_text.end_moves.Goals as goal

pub returns : goal.returns
returns c = same_end c.end_list.ensures
    (ap (λ name. behind_movers name c.args.from c.args.to c.args.partitions) c.as_str.ensures.text)
