use Rattle.std.proofs.Common.{◌+◌, ◌*◌, ℕ, get_or, refl}
use Rattle.ring_deal.proofs.Lists.{map_behind}
use Rattle.ring_deal.proofs.hand.add_cards_of.Goals as goal

pub loop-round-preserved : goal.loop-round-preserved
loop-round-preserved c = map_behind c.args.places.now.items
    (λ (round : ℕ). get_or c.args.hand.now (round * c.args.size + c.args.n) 0) c.loop-round.round
    c.loop-round.places.items c.push.new.self.items _ c.loop-round.invariant c.in_ok-push.ensures.items refl
