use Rattle.std.proofs.Common.{◌∙◌, ◌-◌, ap, arith, subst, sym}
use Rattle.ring_room.proofs.Steps.{steps_more}
use Rattle.ring_deal.specs.Deal.{deal_at, deal_hand, hand_count, hand_size}
use Rattle.ring_deal.specs.Inner.Going.{AreLeft}
use Rattle.ring_deal.proofs.AllDealt.{dealing_here}
use Rattle.ring_deal.proofs.dealer.deal_hands.Goals as goal

pub deal_hand-requires-clause-long : goal.deal_hand-requires-clause-long
deal_hand-requires-clause-long c = (dealing_here c.args.devices.now c.args.power c.args.replicas
    c.args.dealer.now c.requires.can c.requires.none c.loop-n.n c.loop-n.dealer
    (let below = c.loop-n-test.true in let hands = c.hand_count-hands.ensures.value in omega (arith, below, hands))
    c.loop-n.invariant).long

pub deal_hand-requires-clause-left : goal.deal_hand-requires-clause-left
deal_hand-requires-clause-left c =
    let d = dealing_here c.args.devices.now c.args.power c.args.replicas
    c.args.dealer.now c.requires.can c.requires.none c.loop-n.n c.loop-n.dealer
    (let below = c.loop-n-test.true in let hands = c.hand_count-hands.ensures.value in omega (arith, below, hands))
    c.loop-n.invariant in
    subst (λ h. AreLeft (h - c.loop-n.n) c.hand_size-size.result c.args.replicas c.loop-n.dealer.left)
    (sym c.hand_count-hands.ensures.value)
    (subst (λ s. AreLeft (hand_count c.args.power - c.loop-n.n) s c.args.replicas c.loop-n.dealer.left)
    (sym c.hand_size-size.ensures.value) d.left_over)

pub loop-n-preserved : goal.loop-n-preserved
loop-n-preserved c = steps_more (deal_at c.args.devices.now (hand_size c.args.power) c.args.replicas
    (hand_count c.args.power)) c.loop-n.n c.args.dealer.now c.loop-n.dealer c.deal_hand.new.dealer
    c.loop-n.invariant (c.in_ok-deal_hand.ensures
    ∙ ap (λ s. deal_hand c.args.devices.now s c.args.replicas (c.hand_count-hands.result - c.loop-n.n)
    c.loop-n.dealer) c.hand_size-size.ensures.value
    ∙ ap (λ h. deal_hand c.args.devices.now (hand_size c.args.power) c.args.replicas (h - c.loop-n.n)
    c.loop-n.dealer) c.hand_count-hands.ensures.value)
