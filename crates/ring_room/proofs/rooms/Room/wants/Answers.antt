use Rattle.ring_room.proofs.Searching.Figures.{want_of}
use Rattle.ring_room.proofs.rooms.Room.wants.Goals as goal

pub returns : goal.returns
returns c = want_of _ c.args.self.now c.self.view_is c.self.invariant.counted c.args.device c.place_of.result c.index.result.now c.place_of.ensures.value c.place_of.ensures.within c.index.ensures
