use Rattle.std.proofs.Common.{◌∙◌, [], ap, arith}
use Rattle.ring_place.specs.Made.{Cards, pile_at, zone_places}
use Rattle.ring_place.proofs.Dealing.{zone_within}
use Rattle.ring_room.proofs.Steps.{steps_more}
use Rattle.ring_place.proofs.deck.Deck.of.Goals as goal

pub add_pile-requires : goal.add_pile-requires
add_pile-requires c = zone_within c.args.room.now c.deref-zone-items.result.now c.loop-zone.zone-index
    (c.deref-zone-items.ensures.value ∙ c.in_ok-zone_places.ensures) (omega arith)

pub loop-zone-preserved : goal.loop-zone-preserved
loop-zone-preserved c =
    let room = c.args.room.now in
    let n = c.loop-zone.zone-index in
    let deck = c.loop-zone.deck in
    let same = c.deref-zone-items.ensures.value ∙ c.in_ok-zone_places.ensures in
    let first : Cards = record { piles = []; draws = c.args.draws } in
    steps_more (pile_at room (zone_places room)) n first deck c.add_pile.new.self
    c.loop-zone.invariant (c.in_ok-add_pile.ensures ∙ ap (λ places. pile_at room places n deck) same)
