use Rattle.std.proofs.Common.{◌∙◌, [], ap, cond, replicate, sym}
use Rattle.ring_room.specs.Cards.{lacks_at}
use Rattle.ring_place.specs.Made.{cards_at}
use Rattle.ring_deal.proofs.Lists.{flat_more, flat_none}
use Rattle.ring_place.proofs.deck.zone_cards.Goals as goal
use Rattle.ring_place.proofs.deck.zone_cards.Goals.{then-shares_zone+in_ok-add_cards}
use Rattle.ring_place.proofs.deck.zone_cards.Goals.{else-shares_zone}

pub loop-place-preserved : goal.loop-place-preserved
loop-place-preserved c =
    let room = c.args.room.now in
    let before = c.loop-place.cards.items in
    let place = c.loop-place.place in
    let cards = replicate (lacks_at room place) place in
    elim c.if-shares_zone.branch [
      | then-shares_zone+in_ok-add_cards w ↦ flat_more (cards_at room c.args.zone) place before
          (replicate w.lacks_at.result place) c.if-shares_zone.cards.items c.loop-place.invariant
          (ap (λ n. replicate n place) w.lacks_at.ensures ∙ ap (λ b. cond b cards [])
          (sym w.if-shares_zone.true ∙ c.shares_zone.ensures))
          (ap (λ v. v.items) w.cards-is ∙ w.in_ok-add_cards.ensures)
      | else-shares_zone w ↦ flat_none (cards_at room c.args.zone) place before
          c.if-shares_zone.cards.items c.loop-place.invariant
          (ap (λ b. cond b cards []) (sym w.if-shares_zone.false ∙ c.shares_zone.ensures))
          (ap (λ v. v.items) w.cards-is)
    ]
