use Rattle.std.proofs.Common.{◌≡◌}
use Rattle.std.specs.List.{flat_map, range_with_len}
use Rattle.ring_place.specs.Inner.Placing.{numbered}
use Rattle.ring_place.proofs.homes.by_number.Given as goal

-- those with the numbers so far
abbrev pub invariant-loop-number : goal.invariant-loop-number
invariant-loop-number l = l.list.items ≡ flat_map (numbered l.partitions l.numbers)
    (range_with_len 0 l.number)
