use Rattle.std.proofs.Common.{ℕ, ◌-◌, ap₂, ◌∙◌}
use Rattle.ring_room.proofs.Searching.Figures.{count_at, want_at}
use Rattle.ring_room.proofs.rooms.Room.lacks_at.Goals as goal

pub returns : goal.returns
returns c = c.saturating_sub.ensures ∙ ap₂ (λ (x y : ℕ). x - y)
    (want_at _ c.args.self.now c.self.view_is c.self.invariant.counted c.args.place c.index.result.now c.requires c.index.ensures)
    (count_at _ c.args.self.now c.self.view_is c.self.invariant.counted c.args.place c.index-2.result.now c.requires c.index-2.ensures)
