use Rattle.std.proofs.Common.{◌∙◌, [], ap, get_or}
use Rattle.std.proofs.lemmas.List.{get_or_default}
use Rattle.ring_room.specs.Cards.{in_front}
use Rattle.ring_room.specs.Places.{seats_at}
use Rattle.ring_room.proofs.Searching.CardsFit.{front_fits}
use Rattle.ring_room.proofs.rooms.Room.card_in.Goals as goal

pub returns-clause-fits : goal.returns-clause-fits
returns-clause-fits c =
    let now = c.args.self.now in
    let piles = c.args.piles.now in
    let pile = c.best_pile-pile.result in
    let read = c.index-piles-pile.is ∙ get_or_default piles pile c.index-piles-pile.result []
    c.best_pile-pile.ensures.within in
    (front_fits now (seats_at now.devices c.args.others.now) c.args.crowd (get_or piles pile [])
    c.in_ok-index.index c.in_front.result.now (c.in_front.ensures ∙ ap in_front read)
    c.in_ok-index.ensures.within c.in_ok-index.ensures.fits).1
