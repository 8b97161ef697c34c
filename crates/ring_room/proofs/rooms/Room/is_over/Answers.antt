use Rattle.std.proofs.Common.{ap₂}
use Rattle.std.specs.Prelude.{nat_lt}
use Rattle.ring_room.proofs.Searching.Figures.{have_of, want_of}
use Rattle.ring_room.proofs.rooms.Room.is_over.Goals as goal

pub returns : goal.returns
returns c = ap₂ nat_lt
    (want_of _ c.args.self.now c.self.view_is c.self.invariant.counted c.args.device c.place_of-place.result c.index.result.now c.place_of-place.ensures.value c.place_of-place.ensures.within c.index.ensures)
    (have_of _ c.args.self.now c.self.view_is c.self.invariant.counted c.args.device c.place_of-place.result c.index-2.result.now c.place_of-place.ensures.value c.place_of-place.ensures.within c.index-2.ensures)
