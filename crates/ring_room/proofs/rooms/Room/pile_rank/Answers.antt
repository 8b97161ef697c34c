use Rattle.std.proofs.Common.{◌∙◌, ◌<◌, Some, ap, arith, length, sym}
use Rattle.ring_room.specs.Places.{seats_at}
use Rattle.ring_room.proofs.Searching.CardsFit.{ranked}
use Rattle.ring_room.proofs.rooms.Room.pile_rank.Goals as goal

pub returns : goal.returns
returns c =
    let now = c.args.self.now in
    let few = c.count.ensures.count in
    let lt : c.from-place.result < length now.devices = omega (arith, few, c.if-place-count.false) in
    ranked now (seats_at now.devices c.args.others.now) c.args.pile.now c.from-place.result
    c.count-2.result c.rank_of.result c.crowd_by.result
    (ap Some c.from-place.ensures ∙ sym c.in-Some.is ∙ c.first.ensures) lt
    c.crowd_by.ensures c.count-2.ensures c.rank_of.ensures
