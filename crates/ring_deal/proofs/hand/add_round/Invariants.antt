use Rattle.std.proofs.Common.{◌≡◌, ◌++◌}
use Rattle.std.specs.List.{flat_map, range_with_len}
use Rattle.ring_deal.specs.Hand.{cards_of}
use Rattle.ring_deal.proofs.hand.add_round.Given as goal

abbrev pub invariant-loop-n : goal.invariant-loop-n
invariant-loop-n l = l.places.items ≡ l.fn.places.items ++ flat_map (cards_of l.hand l.size l.replicas)
    (range_with_len 0 l.n)
