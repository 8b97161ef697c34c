use Rattle.std.proofs.Common.{take}
use Rattle.ring_founding.specs.Founding.{AreFounded}
use Rattle.ring_founding.proofs.founding.found_rings.Given as goal

-- the rings so far came in
abbrev pub invariant-loop-snapshot : goal.invariant-loop-snapshot
invariant-loop-snapshot l = AreFounded l.terms l.fn.rings (take l.snapshot-index l.snapshots)
    l.founded
