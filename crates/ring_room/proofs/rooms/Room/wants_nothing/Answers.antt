use Rattle.std.proofs.Common.{ℕ, ◌<◌, ◌==◌, ap, length, get_or, subst}
use Rattle.ring_room.specs.Load.{Load}
use Rattle.ring_room.proofs.Searching.DevicesAt.{all_want, is_load}
use Rattle.ring_room.proofs.rooms.Room.wants_nothing.Goals as goal

pub returns-then-self : goal.returns-then-self
returns-then-self c = all_want c.args.self.now
    (is_load _ c.args.self.now c.self.view_is c.self.invariant.counted) c.args.device
    (subst (λ (l : Load). (place : ℕ) → place < length l.wanted →
    0 < get_or l.wanted place 0) c.self.view_is
    (c.self.invariant.want c.if-self.true)) c.requires

pub returns : goal.returns
returns c = ap (λ (n : ℕ). n == 0) c.wants.ensures
