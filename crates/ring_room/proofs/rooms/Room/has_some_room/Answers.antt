use Rattle.std.proofs.Common.{refl, take, ◌∙◌}
use Rattle.std.proofs.lemmas.List.{length-take-le}
use Rattle.ring_room.proofs.Searching.FreeOutside.{none_roomy}
use Rattle.ring_room.proofs.Searching.RoomyPlaces.{first_listed}
use Rattle.ring_room.proofs.rooms.Room.has_some_room.Goals as goal

pub returns-then-self-eq0-clause-none : goal.returns-then-self-eq0-clause-none
returns-then-self-eq0-clause-none c full row id =
    let inside = c.self.inside in
    let now = c.args.self.now in
    let listed = first_listed _ now inside.roomy.items inside.roomy.items inside.count
    c.self.view_is refl c.self.invariant.listed in
    let long = length-take-le inside.count inside.roomy.items c.self.invariant.few in
    none_roomy now row (take inside.count inside.roomy.items) listed (long ∙ c.if-self-eq0.true) id
