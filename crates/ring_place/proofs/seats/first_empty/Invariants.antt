use Rattle.std.proofs.Common.{◌≡◌, ℕ, ◌<◌, false, get_or, None}
use Rattle.ring_room.specs.Rows.{is_empty}
use Rattle.ring_place.proofs.seats.first_empty.Given as goal

-- none so far
abbrev pub invariant-loop-replica : goal.invariant-loop-replica
invariant-loop-replica l = (k : ℕ) → k < l.replica → is_empty (get_or l.row k None) ≡ false
