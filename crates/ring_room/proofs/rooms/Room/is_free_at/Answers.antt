use Rattle.std.proofs.Common.{sym, ◌∙◌}
use Rattle.ring_room.proofs.Searching.FreeOutside.{free_at}
use Rattle.ring_room.proofs.rooms.Room.is_free_at.Goals as goal

pub returns-then-has_room_at : goal.returns-then-has_room_at
returns-then-has_room_at c = free_at c.args.self.now c.has_room_at.ensures.load c.args.others.now
    c.args.place c.contains.result c.requires.others c.requires.place
    (sym c.has_room_at.ensures.value ∙ c.if-has_room_at.true) c.contains.ensures.value
