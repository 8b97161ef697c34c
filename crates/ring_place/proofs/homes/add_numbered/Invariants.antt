use Rattle.std.proofs.Common.{◌≡◌, ◌++◌, take}
use Rattle.ring_place.specs.Inner.Placing.{numbered}
use Rattle.ring_place.proofs.homes.add_numbered.Given as goal

-- those so far
abbrev pub invariant-loop-index : goal.invariant-loop-index
invariant-loop-index l = l.list.items ≡ l.fn.list.items ++ numbered (take l.index l.partitions)
    (take l.index l.numbers) l.number
