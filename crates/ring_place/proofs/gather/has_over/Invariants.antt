use Rattle.std.proofs.Common.{◌≡◌, false, take}
use Rattle.std.specs.List.{list_any}
use Rattle.ring_place.specs.Inner.Gathering.{is_over_in}
use Rattle.ring_place.proofs.gather.has_over.Given as goal

-- none so far
abbrev pub invariant-loop-seat : goal.invariant-loop-seat
invariant-loop-seat l = list_any (is_over_in l.kept) (take l.seat-index l.row) ≡ false
