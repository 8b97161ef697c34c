use Rattle.std.proofs.Common.{take}
use Rattle.std.specs.List.{AllZip}
use Rattle.store_rows.proofs.comparing.are_alike.Given as goal

abbrev pub invariant-loop-place : goal.invariant-loop-place
invariant-loop-place g l = AllZip g.T.Comparable.is_alike (take l.place l.some)
    (take l.place l.others)
