use Rattle.std.proofs.Common.{◌≡◌, true, take, nat_le}
use Rattle.std.specs.List.{list_all}
use Rattle.ring_place.proofs.new_seats.want_once.Given as goal

-- none so far
abbrev pub invariant-loop-want : goal.invariant-loop-want
invariant-loop-want l = list_all (λ want. nat_le want l.partitions) (take l.want-index l.wanted) ≡ true
