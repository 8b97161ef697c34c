use Rattle.std.proofs.Common.{ℕ, ◌-◌, ap₂, ◌∙◌}
use Rattle.ring_room.proofs.Searching.Figures.{have_of, want_of}
use Rattle.ring_room.proofs.rooms.Room.above.Goals as goal

pub returns : goal.returns
returns c = c.saturating_sub.ensures ∙ ap₂ (λ (x y : ℕ). x - y)
    (have_of _ c.args.self.now c.self.view_is c.self.invariant.counted c.args.device c.place_of-place.result c.index.result.now c.place_of-place.ensures.value c.place_of-place.ensures.within c.index.ensures)
    (want_of _ c.args.self.now c.self.view_is c.self.invariant.counted c.args.device c.place_of-place.result c.index-2.result.now c.place_of-place.ensures.value c.place_of-place.ensures.within c.index-2.ensures)
