use Rattle.ring_room.proofs.Searching.Figures.{taken_there}
use Rattle.ring_room.proofs.rooms.Room.take.Goals as goal

pub returns : goal.returns
returns c = taken_there _ c.args.self.now c.set_count.new.self c.self.view_is c.self.invariant.counted c.args.device c.place_of-place.result c.index-count.result.now c.saturating_sub.result c.place_of-place.ensures.value c.place_of-place.ensures.within c.index-count.ensures c.saturating_sub.ensures c.set_count.ensures.count
