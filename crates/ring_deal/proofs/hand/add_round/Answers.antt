use Rattle.std.proofs.Common.{refl}
use Rattle.ring_deal.specs.Hand.{cards_of}
use Rattle.ring_deal.proofs.Lists.{flat_behind}
use Rattle.ring_deal.proofs.hand.add_round.Goals as goal

pub loop-n-preserved : goal.loop-n-preserved
loop-n-preserved c = flat_behind c.args.places.now.items
    (cards_of c.args.hand.now c.args.size c.args.replicas) c.loop-n.n c.loop-n.places.items
    (cards_of c.args.hand.now c.args.size c.args.replicas c.loop-n.n) c.add_cards_of.new.places.items
    c.loop-n.invariant c.in_ok-add_cards_of.ensures refl
