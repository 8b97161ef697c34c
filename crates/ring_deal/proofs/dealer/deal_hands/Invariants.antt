use Rattle.std.proofs.Common.{◌≡◌}
use Rattle.ring_room.specs.Steps.{after_steps}
use Rattle.ring_deal.specs.Deal.{deal_at, hand_count, hand_size}
use Rattle.ring_deal.proofs.dealer.deal_hands.Given as goal

abbrev pub invariant-loop-n : goal.invariant-loop-n
invariant-loop-n l = l.dealer ≡ after_steps (deal_at l.devices (hand_size l.fn.power) l.replicas
    (hand_count l.fn.power)) l.n l.fn.dealer
