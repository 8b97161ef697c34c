use Rattle.std.proofs.Common.{◌≡◌, ℕ, ◌<◌, false, get_or}
use Rattle.ring_room.specs.Cards.{fits}
use Rattle.ring_room.specs.Places.{seats_at}
use Rattle.ring_room.proofs.rooms.Room.first_fit.Given as goal

-- none so far
abbrev pub invariant-loop-index : goal.invariant-loop-index
invariant-loop-index l = (k : ℕ) → k < l.index → fits l.self (seats_at l.self.devices l.others) l.crowd
    (get_or l.cards k 0) ≡ false
