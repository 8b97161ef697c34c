use Rattle.std.proofs.Common.{◌≡◌, ◌+◌, ◌*◌, ◌++◌, get_or, map}
use Rattle.std.specs.List.{range_with_len}
use Rattle.ring_deal.proofs.hand.add_cards_of.Given as goal

abbrev pub invariant-loop-round : goal.invariant-loop-round
invariant-loop-round l = l.places.items ≡ l.fn.places.items ++ map (λ round. get_or l.hand
    (round * l.size + l.n) 0) (range_with_len 0 l.round)
