use Rattle.std.proofs.Common.{◌∙◌, ap}
use Rattle.std.specs.List.{range_with_len}
use Rattle.std.specs.Prelude.{nat_lt}
use Rattle.ring_model.specs.Ring.{seat}
use Rattle.ring_place.specs.Rebalance.{differs}
use Rattle.ring_place.proofs.Rows.IndexRanges.{any_counted}
use Rattle.ring_reads.proofs.moves.has_changed.Goals as goal

pub returns : goal.returns
returns c =
    ap (nat_lt 0) c.differing_count.ensures
    ∙ any_counted (λ replica. differs (seat c.args.old.now c.args.partition replica)
    (seat c.args.new.now c.args.partition replica)) (range_with_len 0 c.args.old.now.replicas)
