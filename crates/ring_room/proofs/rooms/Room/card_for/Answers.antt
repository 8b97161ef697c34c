use Rattle.std.proofs.Common.{arith, sym}
use Rattle.std.proofs.lemmas.Bool.Decides.{nat_tests}
use Rattle.ring_room.specs.Places.{seats_at}
use Rattle.ring_room.proofs.Searching.CardsFit.{no_piles}
use Rattle.ring_room.proofs.rooms.Room.card_for.Goals as goal

pub returns-then-is_empty-clause-by_name : goal.returns-then-is_empty-clause-by_name
returns-then-is_empty-clause-by_name c =
    let now = c.args.self.now in
    let none = sym c.if-is_empty.ensures in
    no_piles now (seats_at now.devices c.args.others.now) c.args.crowd c.args.piles.now c.args.draw
    (grind (arith, nat_tests))
