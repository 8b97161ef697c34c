use Rattle.std.proofs.Common.{◌≡◌, false, take}
use Rattle.std.specs.List.{list_any}
use Rattle.ring_room.specs.Rows.{is_empty}
use Rattle.ring_place.proofs.seats.has_empty.Given as goal

-- none so far
abbrev pub invariant-loop-seat : goal.invariant-loop-seat
invariant-loop-seat l = list_any is_empty (take l.seat-index l.row) ≡ false
